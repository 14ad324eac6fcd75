-- `shares::cut_measurement` meets its contract. Assumes nothing.
use mathlib.Core.Path.{◌≡◌, ap, ◌∙◌}
use mathlib.Core.List.{List, ◌++◌}
use Prim.Native.Nat.{ℕ}
use lib.ListN.{length}
use Rattle.field64.specs.Field.{p64}
use Rattle.sampler.specs.Sampler.{sampled}
use Rattle.shares.specs.Shares.{helper_stream}
use Rattle.shares.proofs.Seeds.{first_drawn}
use Rattle.shares.proofs.cut_measurement.Lts as lts
use Rattle.shares.proofs.cut_measurement.Reads as reads
use Rattle.shares.proofs.cut_measurement.Tie as tie
use Rattle.shares.proofs.cut_measurement.Goals as goal

abbrev After-draw_row : Type 0
After-draw_row = lts.After-draw_row tie.the-claims reads.Pre reads.Post tie.handed_clauses

-- the helper's row
drawn_is : (c : After-draw_row) → c.draw_row.new.row ≡ sampled p64 (length c.args.helper.now) (helper_stream (length c.args.helper.now) c.args.seeds.now)
drawn_is c =
    let n = length c.args.helper.now in
    first_drawn p64 n (helper_stream n c.args.seeds.now) c.requires.seeds_value c.helper_stream.result (c.helper_stream.ensures.0 n) _ _ c.draw_row.auto.row c.draw_row.ensures

pub returns : goal.returns
returns c =
    record {
      helper_after = drawn_is c.before.before.before.before.before.before.before.before.before.before.before.before;
      leader_after = c.sub_rows.ensures;
      given_after = c.write_given.ensures ∙ ap (λ (v : List ℕ). c.args.wr ++ v) c.vf_seed.ensures;
    }
