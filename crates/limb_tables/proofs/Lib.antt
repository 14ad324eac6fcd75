-- `Entries` of the entries of tables, modulo any m.
mod Entries
