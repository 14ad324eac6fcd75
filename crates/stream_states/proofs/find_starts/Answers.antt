-- `stream_states::find_starts` meets its contract. Assumes nothing.
use mathlib.Core.Path.{◌≡◌, refl, subst, ap, ◌∙◌}
use Prim.Native.Nat.{ℕ, ◌+◌, ◌-◌, ◌*◌, ◌≤◌}
use native.Mathlib.Omega.{arith}
use lib.ListN.{length}
use Rattle.turboshake.specs.Stream.{after}
use Rattle.stream_states.specs.States.{states_of, starts_of}
use Rattle.stream_states.proofs.States.{starts_none, starts_put, starts_on, piece_long}
use Rattle.stream_states.proofs.find_starts.Goals as goal

pub loop-t-init : goal.loop-t-init
loop-t-init c = (c.requires.at_bound.0, refl, starts_none c.args.per c.args.stream)

pub loop-t-preserved : goal.loop-t-preserved
loop-t-preserved c =
    let l = c.loop-t in
    let w = c.save in
    let room : l.t * 26 + 26 ≤ length l.states = omega arith in (
      c.skip-next.ensures.1,
      starts_put c.args.per _ l.t l.states w.new.words _ c.args.stream l.next refl (omega arith) (w.auto.words ∙ piece_long (l.t * 26) 26 l.states room) l.invariant.1 l.invariant.2 w.ensures,
      starts_on c.args.per l.t c.args.stream l.next c.skip-next.result l.invariant.2 c.skip-next.ensures.0,
    )

pub returns : goal.returns
returns c =
    let l = c.loop-t in
    let w = c.save-2 in
    let per = c.args.per in
    let t = c.args.count - 1 in
    let end : l.t ≡ t = omega arith in
    let all : t + 1 ≡ c.args.count = omega arith in
    let room : t * 26 + 26 ≤ length l.states = omega arith in
    let before : states_of t l.states ≡ starts_of per t c.args.stream = subst (λ (k : ℕ). states_of k l.states ≡ starts_of per k c.args.stream) end l.invariant.1 in
    let here : l.next ≡ after (t * per) c.args.stream = l.invariant.2 ∙ ap (λ (k : ℕ). after (k * per) c.args.stream) end in
    starts_put per c.args.count t l.states w.new.words _ c.args.stream l.next all (omega arith) (w.auto.words ∙ piece_long (t * 26) 26 l.states room) before here w.ensures
