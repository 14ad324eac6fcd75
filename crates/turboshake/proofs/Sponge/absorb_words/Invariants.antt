-- `turboshake::Sponge::absorb_words` meets its contract. The invariant: the words that are left take the state to where all take the first one. Assumes nothing.
use Prim.Native.Nat.{◌<◌}
use Rattle.turboshake.specs.Stream.{sponge}
use Rattle.turboshake.proofs.Words.{AbsorbsWords}
use Rattle.turboshake.proofs.Sponge.absorb_words.Given as goal

abbrev pub invariant-loop-word : goal.invariant-loop-word
invariant-loop-word l = (l.at < 168) × AbsorbsWords l.words (sponge l.initial.lanes l.initial.at) (sponge l.lanes l.at) l.word-index
