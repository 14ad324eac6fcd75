-- `load_report::encode_load` meets its contract. Assumes nothing.
use mathlib.Core.Path.{◌≡◌, sym, ap, ◌∙◌}
use Prim.Native.Nat.{ℕ, ◌≤◌}
use lib.Ieee.{binary64, of_bits}
use Rattle.pine.specs.declared.record.Pine.{Pine}
use Rattle.pine.specs.Param.{Field64}
use Rattle.pine.specs.Record.{pine_of, stream_len_of}
use Rattle.pine.proofs.Sizes.{derivable_64, derived_64}
use Rattle.flp.specs.Encode.{encode_of}
use Rattle.load_draws.specs.Draws.{gradient_of, stream_of}
use Rattle.load_report.proofs.Reported.{room, part_long}
use Rattle.load_report.proofs.encode_load.Lts as lts
use Rattle.load_report.proofs.encode_load.Reads as reads
use Rattle.load_report.proofs.encode_load.Tie as tie
use Rattle.load_report.proofs.encode_load.Goals as goal

abbrev After-stream_len-n : Type 0
After-stream_len-n = lts.After-stream_len tie.the-claims reads.Pre reads.Post

-- the lengths of the two rows
gradient_long : (c : After-stream_len-n) → c.new-pine.result.dimension ≡ c.args.param.dimension
unfolding pine_of
gradient_long c = ap (λ (r : Pine). r.dimension) c.new-pine.ensures

stream_long : (c : After-stream_len-n) → c.stream_len-n.result ≡ stream_len_of c.args.param.num_wr_tests c.args.param.dimension
unfolding pine_of
stream_long c = c.stream_len-n.ensures ∙ ap (λ (r : Pine). stream_len_of r.num_wr_tests r.dimension) c.new-pine.ensures

gradient_fits : (c : After-stream_len-n) → c.new-pine.result.dimension ≤ 1024
gradient_fits c =
    rw (gradient_long c) (room c.args.param c.requires).dimension

stream_fits : (c : After-stream_len-n) → c.stream_len-n.result ≤ 4096
stream_fits c =
    rw (stream_long c) (room c.args.param c.requires).stream

pub new-pine-requires : goal.new-pine-requires
new-pine-requires c = derivable_64 (room c.args.param c.requires).accepts

pub stream_len-n-requires : goal.stream_len-n-requires
stream_len-n-requires c =
    derived_64 (record { param = _; accepts = (room c.args.param c.requires).accepts; is = c.new-pine.ensures })

pub slice_bounds-gradient-end : goal.slice_bounds-gradient-end
slice_bounds-gradient-end c = gradient_fits c.before

pub slice_bounds-encode_drawn-end : goal.slice_bounds-encode_drawn-end
slice_bounds-encode_drawn-end c = part_long 1024 _ (of_bits binary64 0) (gradient_fits c.before.before)

pub slice_bounds-stream-end : goal.slice_bounds-stream-end
slice_bounds-stream-end c = stream_fits c.before.before

pub slice_bounds-encode_drawn-end-2 : goal.slice_bounds-encode_drawn-end-2
slice_bounds-encode_drawn-end-2 c = part_long {A = ℕ} 4096 _ 0 (stream_fits c.before.before.before)

pub returns : goal.returns
returns c =
    let d = sym (part_long 1024 _ (of_bits binary64 0) (gradient_fits c.before.before.before.before.before.before.before.before.before.before.before.before)) ∙ gradient_long c.before.before.before.before.before.before.before.before.before.before.before.before in
    let n = sym (part_long {A = ℕ} 4096 _ 0 (stream_fits c.before.before.before.before.before.before.before.before.before.before.before.before)) ∙ stream_long c.before.before.before.before.before.before.before.before.before.before.before.before in
    c.encode_drawn.ensures
    ∙ (λ j. encode_of Field64 c.args.param (gradient_of c.args.seed (d j) (n j)) (stream_of c.args.seed (d j) (n j)) c.args.measurement.now c.args.results.now)
