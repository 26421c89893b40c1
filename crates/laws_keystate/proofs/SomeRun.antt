-- Runs of one turn on a file that was formatted: the start reserves 32 indexes, and the node signs with the first ones, at its start and in its turn.
use Rattle.std.proofs.Common.{◌≡◌, ℕ, ◌+◌, ◌<◌, ◌≤◌, inl, inr, true, false, List, [], ◌∷◌, ◌++◌, None, Some, refl, ap, ◌∙◌, append-nil, lit<, lit≤, sym, arith}
use Rattle.std.specs.Prelude.{◌≢◌}
use Rattle.sp_hss.specs.Uses.{Signing}
use Rattle.sp_keystate.specs.Changes.{changed}
use Rattle.sp_keystate.specs.Slots.{in_slot, in_use}
use Rattle.sp_keystate.specs.Starting.{Starts, booted}
use Rattle.sp_keystate.specs.States.{first_numbers, numbers_of}
use Rattle.sp_keystate.specs.declared.key_state.KeyState.{KeyState}
use Rattle.sp_keystate.specs.declared.slot.Slot.TheVariants.{First}
use Rattle.sp_keystate.specs.declared.starts.Started.{Started}
use Rattle.sp_keystate.specs.declared.starts.TheConstants.{RESERVED}
use Rattle.sp_keystate.proofs.Standing.{formatted_in_use}
use Rattle.sp_outside.specs.Calls.{Nothing}
use Rattle.sp_outside.specs.Disk.{Disk, bytes_of, still}
use Rattle.sp_outside.proofs.DiskLemmas.{bytes_of-still, own_image}
use Rattle.sp_service_turns.specs.Indexes.{reserved_by}
use Rattle.sp_service_turns.specs.Inputs.{Datagram, Poll, Request, Reserve, Tick}
use Rattle.sp_service_turns.specs.Outside.{KeptFile}
use Rattle.sp_service_turns.specs.Turns.{Moves, Turn}
use Rattle.sp_service_turns.specs.declared.indexes.Indexes.{Indexes}
use Rattle.laws_keystate.specs.Histories.{formatted}
use Rattle.laws_keystate.specs.RunLaws.{ARunSigns, indexes_of, sign_at_ticks}
use Rattle.laws_keystate.specs.Runs.{As_it_stands, HasRun, In_turns, IsStopped, Nothing_signed, One_at_most, One_signed, SignsInOrder, SignsInTurn, SignsOne}
use Rattle.laws_keystate.specs.Runs.{SignsTwo, TakesNext, TakesTwo, Two_signed, indexes_at}

orderly : SignsInOrder sign_at_ticks indexes_of
orderly old new (Reserve upto) answer step = λ above within. step
orderly old new (Tick now) answer step = step
orderly old new (Datagram node bytes) answer step = inl step
orderly old new (Request port bytes) answer step = inl step
orderly old new (Poll node) answer step = inl step

-- ---- its start

abbrev state : KeyState
state = record { serial = 3; bound = 32; boot = 1; slot = First; is_current = true }

abbrev started : Started
started = record { state = state; first = 0 }

abbrev disk : Disk
disk = still (changed (changed (bytes_of (still formatted)) 64 (booted first_numbers)) 0 (numbers_of state))

abbrev file : KeptFile
file = record { disk = Some disk; past = None; faults = 0 }

starts : Starts (Some (still formatted)) (Some disk) RESERVED 1024 started
starts = record {
  begins = record {
    found = in_slot First first_numbers;
    stood = ap in_use (bytes_of-still formatted) ∙ formatted_in_use [] refl;
    first = refl;
    boot = refl;
    serial = refl;
    slot = refl;
    changes = refl;
  };
  some = lit< tt;
  bound = refl;
  boot = (lit≤ tt, lit< tt);
  serial = lit< tt;
}

-- ---- its turn

abbrev turn : Turn
turn = record {
  reserved = None;
  now = 0;
  ticked = [];
  overlay = Nothing;
  arrived = [];
  client = Nothing;
  reply = [];
  is_replied = false;
  frame = [];
  is_sent = false;
}

-- after so many signatures
abbrev after : ℕ → Indexes
after n = record { index = n; bound = 32; total = 1024 }

not_the_bound : (n : ℕ) → n < 31 → (after n).index ≢ (after n).bound
not_the_bound n few is = omega (arith, few, is)

-- of a node that had signed n messages at its start, and m after its turn
module _ (n m : ℕ) (more : n ≤ m) (few : m < 31) (due : None ≡ reserved_by (after n)) (takes : TakesTwo (after n) (after m)) where
  abbrev moves : Moves sign_at_ticks indexes_of [] None turn (after n) (after m)
  moves = record {
    after_reserve = after n;
    after_tick = after m;
    after_overlay = after m;
    after_client = after m;
    due = due;
    reserve = refl;
    tick = takes;
    overlay = refl;
    client = refl;
    poll = refl;
    tick_supplied = inl (omega (arith, more, few));
    client_supplied = inl (omega (arith, few));
  }

  signs : (signed : List Signing) → SignsTwo (after n) (after m) signed → SignsInTurn sign_at_ticks indexes_of [] None turn (after n) (after m) moves signed
  signs signed ticks = record {
    at_tick = signed;
    at_overlay = [];
    at_client = [];
    at_poll = [];
    tick = ticks;
    overlay = Nothing_signed refl;
    client = Nothing_signed refl;
    poll = Nothing_signed refl;
    together = sym (append-nil signed);
  }

  run : (at_start : List Signing) → TakesNext (indexes_at 1024 started) (after n) → SignsOne (indexes_at 1024 started) (after n) at_start
      → (signed : List Signing) → SignsTwo (after n) (after m) signed
      → HasRun sign_at_ticks indexes_of formatted (at_start ++ signed) (after m) state file
  run at_start begins announces signed ticks = record {
    total = 1024;
    few = lit< tt;
    started = started;
    begun = file;
    starts = starts;
    start = after n;
    begins = begins;
    at_start = at_start;
    announces = announces;
    peers = [];
    turns = turn ∷ [];
    moves = (after m, moves, refl);
    in_turns = signed;
    signs = (signed, [], signs signed ticks, refl, sym (append-nil signed));
    together = refl;
    file = (file, refl, refl);
    keys_are = refl;
    serial = lit< tt;
  }

stopped : (n : ℕ) (signed : List Signing) → HasRun sign_at_ticks indexes_of formatted signed (after n) state file
    → (left : List ℕ) × IsStopped sign_at_ticks indexes_of formatted signed left
stopped n signed has = (bytes_of disk, In_turns signed (bytes_of disk) (after n) state file has (As_it_stands (own_image disk)))

-- one is taken, or two
takes_one : (n : ℕ) → n < 31 → TakesTwo (after n) (after (n + 1))
takes_one n few = (after (n + 1), inr (not_the_bound n few, refl), inl refl)

takes_two : (n : ℕ) → n < 30 → TakesTwo (after n) (after (n + 1 + 1))
takes_two n few =
    (after (n + 1), inr (not_the_bound n (omega (arith, few)), refl), inr (not_the_bound (n + 1) (omega (arith, few)), refl))

-- the first is signed at its start
signs_first : (first : List ℕ) → SignsOne (indexes_at 1024 started) (after 1) (record { index = 0; message = first } ∷ [])
signs_first first = One_signed first refl

pub a_run_signs : ARunSigns
a_run_signs = (
  orderly,
  (λ message.
      let signed : List Signing = record { index = 0; message = message } ∷ [] in
      stopped 1 signed
      (run 0 1 (lit≤ tt) (lit< tt) refl (takes_one 0 (lit< tt)) [] (inl refl) (Nothing_signed refl) signed (One_at_most signed (One_signed message refl)))),
  (λ first second.
      let signed : List Signing = record { index = 1; message = second } ∷ [] in
      stopped 2 (record { index = 0; message = first } ∷ signed)
      (run 1 2 (lit≤ tt) (lit< tt) refl (takes_one 1 (lit< tt)) (record { index = 0; message = first } ∷ []) (inr (not_the_bound 0 (lit< tt), refl))
      (signs_first first) signed (One_at_most signed (One_signed second refl)))),
  (λ first second third.
      let signed : List Signing = record { index = 1; message = second } ∷ record { index = 2; message = third } ∷ [] in
      stopped 3 (record { index = 0; message = first } ∷ signed)
      (run 1 3 (lit≤ tt) (lit< tt) refl (takes_two 1 (lit< tt)) (record { index = 0; message = first } ∷ []) (inr (not_the_bound 0 (lit< tt), refl))
      (signs_first first) signed (Two_signed second third refl))),
)
