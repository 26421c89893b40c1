-- How a daemon ends, from what it did.
use Rattle.std.proofs.Common.{◌≡◌, ℕ, ◌≤◌, Bool, false, List, length, Option, Some, None, refl, sym, subst, ◌∙◌, arith, inl, inr}
use Rattle.std.specs.Prelude.{◌⊎◌, nat_lt}
use Rattle.std.proofs.Math.Seq.{take_all}
use Rattle.std.proofs.lemmas.Bool.Decides.{nat_tests}
use Rattle.sp_base.specs.declared.limits.TheConstants.{MAX_INPUT_BYTES}
use Rattle.sp_keystate.specs.declared.refused.KeyRefused.{KeyRefused}
use Rattle.sp_keystate.specs.declared.refused.KeyRefused.TheVariants as keys
use Rattle.sp_outside.specs.Disk.{Disk}
use Rattle.sp_outside.specs.Streams.{IsInput}
use Rattle.sp_service.proofs.Tellings.{By_keeper, By_keys, By_memory, By_refusal, By_sink, By_turns, By_wire, Says, Tells, both, told}
use Rattle.sp_service.specs.Complete.{GivesNoStart, IsAtEnd, IsConfiguredFor}
use Rattle.sp_service_turns.specs.Outside.{Outside}
use Rattle.sp_service_turns.specs.declared.served.Served.{Served}
use Rattle.sp_top.specs.Daemons.{AreTold, As_wanted, CanServe, CannotStart, DaemonEnds, DaemonRuns, EndsUnlessFailed, IsInputFor, MayEndByKeys, No_keeper}
use Rattle.sp_top.specs.Daemons.{No_memory, No_sink, No_source, No_wire, ServedFrom}
use Rattle.sp_top.specs.Statuses.{key_status, served_status}
use Rattle.sp_words.specs.declared.status.Status.{Status}
use Rattle.sp_words.specs.declared.status.Status.TheVariants as statuses

-- ---- what its status tells

-- the whole of a text that isn't too long was read
pub record IsWhole (text bytes : List ℕ) (is_cut : Bool) : Type 0 where
  pub bytes_are : bytes ≡ text
  pub whole : is_cut ≡ false

whole_input : (text bytes : List ℕ) (is_cut : Bool) → IsInput (Some text) MAX_INPUT_BYTES bytes is_cut → length text ≤ MAX_INPUT_BYTES
    → IsWhole text bytes is_cut
whole_input text bytes is_cut input short = record {
  bytes_are = input.0 ∙ take_all MAX_INPUT_BYTES text short;
  whole = input.1 ∙ grind (arith, nat_tests, short);
}

short_input : (text bytes : List ℕ) (is_cut : Bool) → IsInput (Some text) MAX_INPUT_BYTES bytes is_cut → is_cut ≡ false → length text ≤ MAX_INPUT_BYTES
short_input text bytes is_cut input whole = let few : nat_lt MAX_INPUT_BYTES (length text) ≡ false = sym input.1 ∙ whole in grind (arith, nat_tests, few)

module _ (text bytes : List ℕ) (is_cut : Bool) (turns : ℕ) (disk : Disk) (input : IsInput (Some text) MAX_INPUT_BYTES bytes is_cut) where
  -- what was read says what the text does
  read : (Holds : ℕ → Type 0) → IsInputFor Holds text → Says Holds bytes is_cut
  read Holds can =
      let whole = whole_input text bytes is_cut input can.short in
      record { whole = whole.whole; configured = subst (IsConfiguredFor Holds) (sym whole.bytes_are) can.configured }

  any : (Holds : ℕ → Type 0) → Says Holds bytes is_cut → Says (λ _. Unit {0}) bytes is_cut
  any Holds says = record {
    whole = says.whole;
    configured = record { config = says.configured.config; topology = says.configured.topology; configured = says.configured.configured; holds = tt };
  }

  keys_end : (wanted : Status) (refused : KeyRefused) → wanted ≡ statuses.KeyState → EndsUnlessFailed wanted (key_status refused)
  keys_end wanted keys.KeeperFault is = No_keeper
  keys_end wanted keys.Unformatted is = subst (λ (s : Status). EndsUnlessFailed s statuses.KeyState) (sym is) As_wanted
  keys_end wanted keys.Formatted is = subst (λ (s : Status). EndsUnlessFailed s statuses.KeyState) (sym is) As_wanted
  keys_end wanted (keys.Exhausted number) is = subst (λ (s : Status). EndsUnlessFailed s statuses.KeyState) (sym is) As_wanted

  serves : (ended : Served) → Tells bytes is_cut turns (Some disk) ended → CanServe turns disk text → EndsUnlessFailed statuses.Done (served_status ended)
  serves _ (By_refusal refused) can = absurd (refused (any _ (read _ can)))
  serves _ (By_turns says) can = As_wanted
  serves _ (By_keys refused says) can =
      let holds = both _ (λ total. IsAtEnd total turns disk) bytes (read _ can).configured says.configured in absurd (holds.1 holds.2)
  serves _ By_keeper can = No_keeper
  serves _ By_wire can = No_wire
  serves _ By_sink can = No_sink
  serves _ By_memory can = No_memory

  stops : (ended : Served) → Tells bytes is_cut turns (Some disk) ended → CannotStart disk text → EndsUnlessFailed statuses.KeyState (served_status ended)
  stops _ (By_refusal refused) can = absurd (refused (any _ (read _ can)))
  stops _ (By_turns says) can =
      let holds = both _ (λ total. GivesNoStart total disk → ⊥) bytes (read _ can).configured says.configured in absurd (holds.2 holds.1)
  stops _ (By_keys refused says) can = keys_end statuses.KeyState refused refl
  stops _ By_keeper can = No_keeper
  stops _ By_wire can = No_wire
  stops _ By_sink can = No_sink
  stops _ By_memory can = No_memory

  by_keys : (ended : Served) → Tells bytes is_cut turns (Some disk) ended → served_status ended ≡ statuses.KeyState → MayEndByKeys turns disk text
  by_keys _ (By_keys refused says) is =
      let short = short_input text bytes is_cut input says.whole in
      let whole = whole_input text bytes is_cut input short in
      record { short = short; configured = subst (IsConfiguredFor (λ total. IsAtEnd total turns disk)) whole.bytes_are says.configured }
  by_keys _ (By_refusal refused) is = absurd (cc)
  by_keys _ (By_turns says) is = absurd (cc)
  by_keys _ By_keeper is = absurd (cc)
  by_keys _ By_wire is = absurd (cc)
  by_keys _ By_sink is = absurd (cc)
  by_keys _ By_memory is = absurd (cc)

-- ---- together

-- an input that couldn't be read
unread : (wanted status : Status) → (status ≡ statuses.Source) ⊎ (status ≡ statuses.Memory) → EndsUnlessFailed wanted status
unread wanted status (inl source) = subst (EndsUnlessFailed wanted) (sym source) No_source
unread wanted status (inr memory) = subst (EndsUnlessFailed wanted) (sym memory) No_memory

unread_keys : (status : Status) → (status ≡ statuses.Source) ⊎ (status ≡ statuses.Memory) → status ≡ statuses.KeyState → ⊥
unread_keys status (inl source) is = absurd (cc)
unread_keys status (inr memory) is = absurd (cc)

module _ (turns : ℕ) (status : Status) (before after : Outside) where
  tells : (left : Option (List ℕ)) (is : ServedFrom left turns status before after) → Tells is.text is.is_cut turns before.file.disk is.ended
  tells left is = told is.text is.is_cut turns before after is.ended is.ends

  all_serve : (left : Option (List ℕ)) (disk : Option Disk) → before.file.disk ≡ disk → DaemonEnds left turns status before after
      → AreTold left disk (CanServe turns)
      → EndsUnlessFailed statuses.Done status
  all_serve (Some text) (Some disk) file (inl is) can =
      subst (EndsUnlessFailed statuses.Done) (sym is.status_is)
      (serves text is.text is.is_cut turns disk is.input is.ended
      (subst (λ (d : Option Disk). Tells is.text is.is_cut turns d is.ended) file (tells (Some text) is)) can)
  all_serve left disk file (inr is) can = unread statuses.Done status is.cause
  all_serve (Some text) None file (inl is) can = absurd can
  all_serve None disk file (inl is) can = absurd can

  all_stop : (left : Option (List ℕ)) (disk : Option Disk) → before.file.disk ≡ disk → DaemonEnds left turns status before after → AreTold left disk CannotStart
      → EndsUnlessFailed statuses.KeyState status
  all_stop (Some text) (Some disk) file (inl is) can =
      subst (EndsUnlessFailed statuses.KeyState) (sym is.status_is)
      (stops text is.text is.is_cut turns disk is.input is.ended
      (subst (λ (d : Option Disk). Tells is.text is.is_cut turns d is.ended) file (tells (Some text) is)) can)
  all_stop left disk file (inr is) can = unread statuses.KeyState status is.cause
  all_stop (Some text) None file (inl is) can = absurd can
  all_stop None disk file (inl is) can = absurd can

  -- a daemon that ended by its key file
  stopped : (text : List ℕ) (disk : Disk) → before.file.disk ≡ Some disk → DaemonEnds (Some text) turns status before after → status ≡ statuses.KeyState
      → MayEndByKeys turns disk text
  stopped text disk file (inl is) ended =
      by_keys text is.text is.is_cut turns disk is.input is.ended
      (subst (λ (d : Option Disk). Tells is.text is.is_cut turns d is.ended) file (tells (Some text) is))
      (sym is.status_is ∙ ended)
  stopped text disk file (inr is) ended = absurd (unread_keys status is.cause ended)

pub runs : (left : Option (List ℕ)) (turns : ℕ) (status : Status) (before after : Outside) → DaemonEnds left turns status before after
    → DaemonRuns left turns status before after
runs left turns status before after ends = record {
  ends = ends;
  serves = all_serve turns status before after left before.file.disk refl ends;
  stops = all_stop turns status before after left before.file.disk refl ends;
  stopped = λ is text disk source file.
      stopped turns status before after text disk file (subst (λ (l : Option (List ℕ)). DaemonEnds l turns status before after) source ends) is;
}
