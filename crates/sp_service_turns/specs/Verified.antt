-- The lines of a recording against the steps of a node.
use Rattle.std.specs.Prelude.{ℕ, ◌≡◌, ◌≢◌, ◌+◌, List, [], ◌∷◌, ◌++◌, take, slice_get, Option, None, Some}
use Rattle.sp_recording.specs.declared.line.Digest.{Digest}
use Rattle.sp_recording.specs.declared.line.Line.{Line}
use Rattle.sp_recording.specs.declared.line.Line.TheVariants as lines
use Rattle.sp_service_turns.specs.Inputs.{Datagram, Input, Poll, Request, Reserve, Steps, Tick}
use Rattle.sp_service_turns.specs.Runs.{MovesOn, all_lines}
use Rattle.sp_service_turns.specs.Turns.{Turn, told}
use Rattle.sp_service_turns.specs.declared.indexes.Indexes.{Indexes}
use Rattle.sp_service_turns.specs.declared.peer.Peer.{Peer}

-- what was asked of the node, and the digest of what it is told to have answered
pub record Question : Type 0 where
  pub input : Input
  pub digest : Digest

-- the digest that a line recorded
abbrev pub digest_in : Question → Digest
digest_in q = q.digest

-- what a line asks: nothing where it has no digest
abbrev pub asked : Line → Option Question
asked (lines.Reserve upto) = None
asked (lines.Tick now digest) = Some (record { input = Tick now; digest = digest })
asked (lines.Overlay node bytes digest) = Some (record { input = Datagram node bytes; digest = digest })
asked (lines.Stray port) = None
asked (lines.Client port bytes digest) = Some (record { input = Request port bytes; digest = digest })
asked (lines.Poll node digest) = Some (record { input = Poll node; digest = digest })

-- a line without a digest: a reserve line raises the bound, and a stray line changes nothing
abbrev pub Passes : {N : Type 0} → Steps N → Line → N → N → Type 0
Passes steps (lines.Reserve upto) old new = steps old (Reserve upto) [] new
Passes steps _ old new = new ≡ old

-- from the first state the node can take these steps with answers of just these digests; so many digests are told
pub data Agrees {N : Type 0} (steps : Steps N) (first : N) : List Line → N → ℕ → Type 0 where
  Starts : Agrees steps first [] first 0
  Is_silent : {before : List Line} {node after : N} {count : ℕ} (line : Line) → Agrees steps first before node count → asked line ≡ None
      → Passes steps line node after
      → Agrees steps first (before ++ line ∷ []) after count
  Is_so : {before : List Line} {node after : N} {count : ℕ} (line : Line) (q : Question) (answer : List ℕ) → Agrees steps first before node count
      → asked line ≡ Some q
      → steps node q.input answer after → told answer ≡ q.digest → Agrees steps first (before ++ line ∷ []) after (count + 1)

-- the lines before this one agree, and here the node answers with this digest, which is another than the line's
pub record Differs {N : Type 0} (steps : Steps N) (first : N) (ls : List Line) (place : ℕ) (recorded computed : Digest) : Type 0 where
  pub line : Line
  pub q : Question
  pub node : N
  pub after : N
  pub count : ℕ
  pub answer : List ℕ
  pub before : Agrees steps first (take place ls) node count
  pub here : slice_get ls place ≡ Some line
  pub asks : asked line ≡ Some q
  pub answers : steps node q.input answer after
  pub recorded_is : recorded ≡ q.digest
  pub computed_is : computed ≡ told answer
  pub other : computed ≢ recorded

-- whatever turns were made, their lines agree with the node's steps
abbrev pub RecordingsAgree : {N : Type 0} → Steps N → (N → Indexes) → Type 0
RecordingsAgree {N} steps indexes =
    (peers : List Peer) (turns : List Turn) (old new : N) → MovesOn steps indexes peers 0 turns old new
    → (count : ℕ) × Agrees steps old (all_lines peers 0 turns) new count
