-- `tiles::run_block` meets its contract. Assumes nothing.
use mathlib.Core.Path.{refl, ap, ◌∙◌}
use mathlib.Core.List.{List}
use Prim.Native.Nat.{ℕ, ◌+◌, ◌-◌, ◌*◌}
use native.Mathlib.Omega.{arith}
use lib.ListN.{length}
use Rattle.field64.specs.Field.{p64}
use Rattle.flp.specs.Tests.{tests_of}
use Rattle.flp.specs.Encode.{elements}
use Rattle.stream_states.specs.States.{tile_of, all_after}
use Rattle.stream_states.proofs.States.{starts_ready, starts_drawn, last_after, last_ready, as_many}
use Rattle.tiles.proofs.run_block.Goals as goal

pub run_tiles-norm-requires : goal.run_tiles-norm-requires
run_tiles-norm-requires c =
    let f = c.find_starts in
    let rows = c.requires.block_rows in
    record {
      usable = c.requires.usable;
      per_bound = c.requires.per_bound;
      block_rows = ((rows.0.0, (omega (arith, rows.0.1.0, f.auto.states), rows.0.1.1)), rows.1);
      ready = rw f.ensures (starts_ready c.args.per (length c.args.results.now) c.args.stream c.requires.at_bound.0);
    }

pub returns : goal.returns
returns c =
    let r = c.run_tiles-norm in
    let f = c.find_starts in
    let per = c.args.per in
    let T = length c.args.results.now in
    let at = (T - 1) * 26 in
    let next = c.load-next.ensures ∙ last_after per T (T - 1) (at + 26 - at) _ c.args.stream c.requires.at_bound.1 refl (as_many at 26) (r.ensures.states_after ∙ ap (all_after per) f.ensures) in
    let bytes = ap (tile_of per) f.ensures ∙ starts_drawn per T c.args.stream in
    record {
      norm_value = r.ensures.result_value;
      next_value = (next, last_ready (T * per) c.args.stream c.load-next.result c.requires.at_bound.0 next);
      results_after = r.ensures.results_after ∙ ap (λ (bs : List ℕ). tests_of p64 per T bs (elements p64 c.args.frac_bits c.args.gradient.now)) bytes;
    }
