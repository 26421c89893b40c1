-- What is claimed of a run is claimed of its reader and its writer.
use Rattle.std.proofs.Common.{◌≡◌, ℕ, true, false, List, Option, Some, inl, inr, refl, subst, arith}
use Rattle.std.specs.Prelude.{◌⊎◌}
use Rattle.sp_outside.specs.Calls.{Call}
use Rattle.sp_service_turns.specs.Outside.{KeptFile, Outside}
use Rattle.sp_top.specs.Claims.{SaidClaims}
use Rattle.sp_top.specs.Commands.{BySaid}
use Rattle.sp_top.specs.declared.command.Command.{Command}
use Rattle.sp_top.specs.declared.command.Command.TheVariants as commands
use Rattle.sp_top.specs.Complete.{reads, writes_at_end}
use Rattle.sp_replay.specs.Fronts.{IsBrokenOff}
use Rattle.sp_words.specs.Statuses.{code_of}
use Rattle.sp_words.specs.declared.status.Status.{Status}
use Rattle.sp_words.specs.declared.status.Status.TheVariants as statuses
use Rattle.sp_world.specs.Past.{Past}
use Rattle.spinesd.specs.Ended.{SaidEnded}

pub lift : (words : List (List ℕ)) (P Q : Option Command → Type 0) → ((said : Option Command) → P said → Q said) → BySaid words P → BySaid words Q
lift words P Q weaker (inl is) = inl (is.0, is.1, weaker is.0 is.2)
lift words P Q weaker (inr all) = inr (λ (said : Option Command). weaker said (all said))

ended_of : (left : Option (List ℕ)) (past : Option Past) (status : Status) (before after : Outside) (said : Option Command)
    → SaidClaims said left past status before after → SaidEnded said left past status before.text after.text
ended_of left past status before after said claims = record {
  wrote = claims.wrote;
  complete = claims.complete;
  generated = claims.generated;
  usage = claims.usage;
  only_usage = claims.only_usage;
}

pub ended : (words : List (List ℕ)) (left l : Option (List ℕ)) (past : Option Past) (status : Status) (w0 w1 : Option (List Call)) (k0 k1 : Option (List ℕ))
    (f0 f1 : KeptFile)
    (b0 b1 t0 t1 : Option (List ℕ)) → l ≡ left → t0 ≡ b0 → t1 ≡ b1
    → BySaid words
    (λ said. SaidClaims said l past status (record { wire = w0; clock = k0; text = t0; file = f0 }) (record { wire = w1; clock = k1; text = t1; file = f1 }))
    → BySaid words (λ said. SaidEnded said left past status b0 b1)
ended words left l past status w0 w1 k0 k1 f0 f1 b0 b1 t0 t1 read before after is =
    let o0 : Outside = record { wire = w0; clock = k0; text = t0; file = f0 } in
    let o1 : Outside = record { wire = w1; clock = k1; text = t1; file = f1 } in
    let told : BySaid words (λ said. SaidEnded said l past status t0 t1) =
    lift words (λ said. SaidClaims said l past status o0 o1) (λ said. SaidEnded said l past status t0 t1) (ended_of l past status o0 o1) is in
    let P : Option (List ℕ) → Type 0 = λ x. BySaid words (λ said. SaidEnded said x past status t0 t1) in
    let Q : Option (List ℕ) → Type 0 = λ x. BySaid words (λ said. SaidEnded said left past status x t1) in
    let R : Option (List ℕ) → Type 0 = λ x. BySaid words (λ said. SaidEnded said left past status b0 x) in
    subst R after (subst Q before (subst P read told))

-- a source that failed is a reader that failed
pub broken : (words : List (List ℕ)) (left l rest m : Option (List ℕ)) (past : Option Past) (status : Status) (b0 b1 t0 t1 : Option (List ℕ)) → l ≡ left
    → m ≡ rest
    → t0 ≡ b0 → t1 ≡ b1 → BySaid words (λ said. said ≡ Some commands.Replay → status ≡ statuses.Source → IsBrokenOff l m past t0 t1)
    → BySaid words (λ said. said ≡ Some commands.Replay → status ≡ statuses.Source → IsBrokenOff left rest past b0 b1)
broken words left l rest m past status b0 b1 t0 t1 read left_over before after is = rw (← read, ← left_over, ← before, ← after) is

-- what stayed in a source stayed in its reader
pub unread : {A B : Type 0} (words : List (List ℕ)) (s0 s1 : A) (r0 r1 : B) → BySaid words (λ said. reads said ≡ false → s1 ≡ s0) → (s1 ≡ s0 → r1 ≡ r0)
    → BySaid words (λ said. reads said ≡ false → r1 ≡ r0)
unread words s0 s1 r0 r1 is same =
    lift words (λ said. reads said ≡ false → s1 ≡ s0) (λ said. reads said ≡ false → r1 ≡ r0) (λ said stays no. same (stays no)) is

-- ---- a writer that stayed

source_or_memory : (status : Status) → (code_of status ≡ 5) ⊎ (code_of status ≡ 9) → (status ≡ statuses.Source) ⊎ (status ≡ statuses.Memory)
source_or_memory statuses.Source is = inl refl
source_or_memory statuses.Memory is = inr refl
source_or_memory statuses.Done (inl is) = let e : 0 ≡ 5 = is in absurd (omega (arith, e))
source_or_memory statuses.Done (inr is) = let e : 0 ≡ 9 = is in absurd (omega (arith, e))
source_or_memory statuses.Usage (inl is) = let e : 2 ≡ 5 = is in absurd (omega (arith, e))
source_or_memory statuses.Usage (inr is) = let e : 2 ≡ 9 = is in absurd (omega (arith, e))
source_or_memory statuses.Refused (inl is) = let e : 3 ≡ 5 = is in absurd (omega (arith, e))
source_or_memory statuses.Refused (inr is) = let e : 3 ≡ 9 = is in absurd (omega (arith, e))
source_or_memory statuses.Forged (inl is) = let e : 4 ≡ 5 = is in absurd (omega (arith, e))
source_or_memory statuses.Forged (inr is) = let e : 4 ≡ 9 = is in absurd (omega (arith, e))
source_or_memory statuses.Sink (inl is) = let e : 6 ≡ 5 = is in absurd (omega (arith, e))
source_or_memory statuses.Sink (inr is) = let e : 6 ≡ 9 = is in absurd (omega (arith, e))
source_or_memory statuses.Wire (inl is) = let e : 7 ≡ 5 = is in absurd (omega (arith, e))
source_or_memory statuses.Wire (inr is) = let e : 7 ≡ 9 = is in absurd (omega (arith, e))
source_or_memory statuses.Keeper (inl is) = let e : 8 ≡ 5 = is in absurd (omega (arith, e))
source_or_memory statuses.Keeper (inr is) = let e : 8 ≡ 9 = is in absurd (omega (arith, e))
source_or_memory statuses.Mismatch (inl is) = let e : 10 ≡ 5 = is in absurd (omega (arith, e))
source_or_memory statuses.Mismatch (inr is) = let e : 10 ≡ 9 = is in absurd (omega (arith, e))
source_or_memory statuses.Unanswered (inl is) = let e : 11 ≡ 5 = is in absurd (omega (arith, e))
source_or_memory statuses.Unanswered (inr is) = let e : 11 ≡ 9 = is in absurd (omega (arith, e))
source_or_memory statuses.Fewer (inl is) = let e : 12 ≡ 5 = is in absurd (omega (arith, e))
source_or_memory statuses.Fewer (inr is) = let e : 12 ≡ 9 = is in absurd (omega (arith, e))
source_or_memory statuses.KeyState (inl is) = let e : 13 ≡ 5 = is in absurd (omega (arith, e))
source_or_memory statuses.KeyState (inr is) = let e : 13 ≡ 9 = is in absurd (omega (arith, e))

-- the number is that of the status
abbrev IsQuietCode : ℕ → Type 0
IsQuietCode code = (code ≡ 5) ⊎ (code ≡ 9)

pub quiet : {A B : Type 0} (words : List (List ℕ)) (s0 s1 : A) (r0 r1 : B) (status : Status) (code : ℕ) → code ≡ code_of status
    → BySaid words (λ said. writes_at_end said ≡ true → (status ≡ statuses.Source) ⊎ (status ≡ statuses.Memory) → s1 ≡ s0) → (s1 ≡ s0 → r1 ≡ r0)
    → BySaid words (λ said. writes_at_end said ≡ true → (code ≡ 5) ⊎ (code ≡ 9) → r1 ≡ r0)
quiet words s0 s1 r0 r1 status code code_is is same =
    lift words (λ said. writes_at_end said ≡ true → (status ≡ statuses.Source) ⊎ (status ≡ statuses.Memory) → s1 ≡ s0)
    (λ said. writes_at_end said ≡ true → IsQuietCode code → r1 ≡ r0)
    (λ said stays uncalled cause. same (stays uncalled (source_or_memory status (subst IsQuietCode code_is cause)))) is
