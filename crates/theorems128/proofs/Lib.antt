-- `Small`: the size of a small number modulo p, as a centred one.
mod Small
