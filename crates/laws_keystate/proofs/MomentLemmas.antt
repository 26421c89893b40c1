-- Each moment of a daemon, turn by turn, is one of a run so far, which signed what its node had signed.
use Rattle.std.proofs.Common.{◌≡◌, ℕ, ◌+◌, ◌<◌, ◌≤◌, inl, inr, List, [], ◌∷◌, ◌++◌, length, Option, None, Some, refl, sym, ap, subst, ◌∙◌, append_assoc}
use Rattle.std.proofs.Common.{append-nil, arith}
use Rattle.std.specs.List.{AllByRecursion}
use Rattle.std.specs.Prelude.{◌^◌, slice_get}
use Rattle.std.proofs.lemmas.List.{length_push}
use Rattle.sp_hss.specs.Uses.{Signing}
use Rattle.sp_keystate.specs.Soundness.{Keeps}
use Rattle.sp_keystate.specs.Starting.{KeepsAll, Starts}
use Rattle.sp_keystate.specs.declared.key_state.KeyState.{KeyState}
use Rattle.sp_keystate.specs.declared.starts.Started.{Started}
use Rattle.sp_keystate.specs.declared.starts.TheConstants.{RESERVED}
use Rattle.sp_keystate.proofs.Since.{since_none, since_weaker}
use Rattle.sp_outside.specs.Disk.{Disk, IsImage, still}
use Rattle.sp_outside.specs.Moments.{AllSince}
use Rattle.sp_service_turns.specs.Daemons.{Broken, EndsAfter, EndsTurn, Spent, Stopped, Whole}
use Rattle.sp_service_turns.specs.Indexes.{reserved_by}
use Rattle.sp_service_turns.specs.Inputs.{Steps, Tick}
use Rattle.sp_service_turns.specs.Keys.{FileMoves, KeepsKeys, keys_after}
use Rattle.sp_service_turns.specs.Outside.{KeptFile, Outside, Text}
use Rattle.sp_service_turns.specs.Runs.{FileMovesOn, MovesOn, Ran, keys_on, polled_by}
use Rattle.sp_service_turns.specs.Served.{Begun as Is_begun, EndsTurns, Unbegun, opening_of}
use Rattle.sp_service_turns.specs.Turns.{Moves, Turn}
use Rattle.sp_service_turns.specs.declared.indexes.Indexes.{Indexes}
use Rattle.sp_service_turns.specs.declared.peer.Peer.{Peer}
use Rattle.sp_service_turns.specs.declared.served.Served.{Served}
use Rattle.sp_lms.specs.declared.param.LmsParam.TheVariants.{H5}
use Rattle.laws_keystate.specs.Histories.{IsSomeSound}
use Rattle.laws_keystate.specs.RunLaws.{EachMomentIsOfARun, StartsSign}
use Rattle.laws_keystate.specs.RunMoments.{LeavesAfter, LeavesBetween, LeavesOn, LeavesTurns}
use Rattle.laws_keystate.specs.Runs.{At_start, HasRun, In_its_reserve, In_turns, IsStopped, MayBeLeft, Nothing_signed, One_signed, SignsInOrder, SignsInTurn}
use Rattle.laws_keystate.specs.Runs.{One_at_most, SignsOn, SignsOne, SignsTwo, TakesNext, TakesTwo, TurnLeaves, Two_signed, Without_reserve, indexes_at}
use Rattle.laws_keystate.proofs.RunLemmas.{heard, polled_next, replied, serials}
use Rattle.laws_keystate.proofs.StoppedLemmas.{run_sound}

-- ---- a moment that was added

get_there : {X : Type 0} (old : List X) (x : X) (later : List X) → slice_get (old ++ x ∷ later) (length old) ≡ Some x
get_there [] x later = refl
get_there (y ∷ old) x later = get_there old x later

may_be : (old front later all : List Disk) → all ≡ (old ++ front) ++ later
    → AllByRecursion (λ (d : Disk). (image : List ℕ) → IsImage d image → MayBeLeft (Some old) (Some all) image) later
may_be old front [] all is = tt
may_be old front (d ∷ later) all is = (
  (λ image leaves. record {
    before = old;
    all = all;
    before_is = refl;
    all_are = refl;
    moment = length (old ++ front);
    later = longer old front;
    disk = d;
    there = ap (λ (l : List Disk). slice_get l (length (old ++ front))) is ∙ get_there (old ++ front) d later;
    leaves = leaves;
  }),
  may_be old (front ++ d ∷ []) later all
      (is ∙ append_assoc old front (d ∷ later) ∙ ap (λ (l : List Disk). old ++ l) (sym (append_assoc front (d ∷ []) later))
      ∙ sym (append_assoc old (front ++ d ∷ []) later)),
)
  where
    longer : (a b : List Disk) → length a ≤ length (a ++ b)
    longer [] b = omega arith
    longer (y ∷ a) b = let rest = longer a b in omega (arith, rest)

-- where moments were added, each image of one of them may be left
since_may : (past now : Option (List Disk)) (P : List ℕ → Type 0) → AllSince past now P → AllSince past now (MayBeLeft past now)
since_may None now P all = tt
since_may (Some old) None P all = all
since_may (Some old) (Some new) P all = (all.0, all.1, may_be old [] all.0 new (all.1 ∙ ap (λ (l : List Disk). l ++ all.0) (sym (append-nil old))))

-- ---- something is signed, or nothing

signs_some : (i j : Indexes) → TakesNext i j → (signed : List Signing) × SignsOne i j signed
signs_some i j (inl same) = ([], Nothing_signed (ap (λ (x : Indexes). x.index) same))
signs_some i j (inr took) = (record { index = i.index; message = [] } ∷ [], One_signed [] (ap (λ (x : Indexes). x.index) took.1))

signs_both : (i j : Indexes) → TakesTwo i j → (signed : List Signing) × SignsTwo i j signed
signs_both i j (m, inl same, next) = at_most (signs_some i j (subst (λ (x : Indexes). TakesNext x j) same next))
  where
    at_most : (signed : List Signing) × SignsOne i j signed → (signed : List Signing) × SignsTwo i j signed
    at_most one = (one.0, One_at_most one.0 one.1)
signs_both i j (m, inr took, inl same) =
    let one = signs_some i j (inr (took.0, same ∙ took.1)) in (one.0, One_at_most one.0 one.1)
signs_both i j (m, inr took, inr more) = (
  record { index = i.index; message = [] } ∷ record { index = i.index + 1; message = [] } ∷ [],
  Two_signed [] [] (omega (arith, ap (λ (x : Indexes). x.index) took.1, ap (λ (x : Indexes). x.index) more.1)),
)

pub starts_sign : StartsSign
starts_sign total started start takes = signs_some (indexes_at total started) start takes

-- ---- a turn more

module _ {N : Type 0} (steps : Steps N) (indexes : N → Indexes) where
  moves_more : (peers : List Peer) (turn : ℕ) (ts : List Turn) (t : Turn) (a b c : N) (h : MovesOn steps indexes peers turn ts a b)
      (m : Moves steps indexes peers (polled_by peers (turn + length ts)) t b c)
      (signed more : List Signing) → SignsOn steps indexes peers turn ts a b h signed
      → SignsInTurn steps indexes peers (polled_by peers (turn + length ts)) t b c m more
      → (on : MovesOn steps indexes peers turn (ts ++ t ∷ []) a c) × SignsOn steps indexes peers turn (ts ++ t ∷ []) a c on (signed ++ more)
  moves_more peers turn [] t a b c h m signed more signs here =
      let both = once turn (turn + 0) (let e : turn + 0 ≡ turn = omega arith in e) a b h m here in (
        (c, both.0, refl),
        (more, [], both.1, refl, ap (λ (l : List Signing). l ++ more) signs ∙ sym (append-nil more)),
      )
    where
      once : (n k : ℕ) → k ≡ n → (a b : N) → b ≡ a → (m : Moves steps indexes peers (polled_by peers k) t b c)
          → SignsInTurn steps indexes peers (polled_by peers k) t b c m more
          → (on : Moves steps indexes peers (polled_by peers n) t a c) × SignsInTurn steps indexes peers (polled_by peers n) t a c on more
      once n k is a b same m here =
          subst (λ (x : N). (on : Moves steps indexes peers (polled_by peers n) t x c) × SignsInTurn steps indexes peers (polled_by peers n) t x c on more) same
          (subst (λ (i : ℕ). (on : Moves steps indexes peers (polled_by peers i) t b c) × SignsInTurn steps indexes peers (polled_by peers i) t b c on more) is
          (m, here))
  moves_more peers turn (x ∷ ts) t a b c h m signed more signs here =
      let shifted = shift (turn + length (x ∷ ts)) (turn + 1 + length ts) (let e : turn + length (x ∷ ts) ≡ turn + 1 + length ts = omega arith in e) m here in
      let rest = moves_more peers (turn + 1) ts t h.0 b c h.2 shifted.0 signs.1 more signs.3 shifted.1 in (
        (h.0, h.1, rest.0),
        (signs.0, signs.1 ++ more, signs.2, rest.1, ap (λ (l : List Signing). l ++ more) signs.4 ∙ append_assoc signs.0 signs.1 more),
      )
    where
      shift : (n k : ℕ) → n ≡ k → (m : Moves steps indexes peers (polled_by peers n) t b c) → SignsInTurn steps indexes peers (polled_by peers n) t b c m more
          → (on : Moves steps indexes peers (polled_by peers k) t b c) × SignsInTurn steps indexes peers (polled_by peers k) t b c on more
      shift n k is m here =
          subst (λ (i : ℕ). (on : Moves steps indexes peers (polled_by peers i) t b c) × SignsInTurn steps indexes peers (polled_by peers i) t b c on more) is
          (m, here)

  keys_more : (keys : KeyState) (ts : List Turn) (t : Turn) → keys_on keys (ts ++ t ∷ []) ≡ keys_after (keys_on keys ts) t.reserved
  keys_more keys [] t = refl
  keys_more keys (x ∷ ts) t = keys_more (keys_after keys x.reserved) ts t

  files_more : (keys : KeyState) (ts : List Turn) (t : Turn) (a b c : KeptFile) → FileMovesOn keys ts a b → FileMoves t.reserved (keys_on keys ts) b c
      → FileMovesOn keys (ts ++ t ∷ []) a c
  files_more keys [] t a b c same move = (c, subst (λ (f : KeptFile). FileMoves t.reserved keys f c) same move, refl)
  files_more keys (x ∷ ts) t a b c on move = (on.0, on.1, files_more (keys_after keys x.reserved) ts t on.0 b c on.2 move)

  module _ (orderly : SignsInOrder steps indexes) where
    pub turns_sign : (peers : List Peer) (polled : Option Peer) (t : Turn) (old new : N) (m : Moves steps indexes peers polled t old new)
        → (signed : List Signing) × SignsInTurn steps indexes peers polled t old new m signed
    turns_sign peers polled t old new m =
        let a = signs_both (indexes m.after_reserve) (indexes m.after_tick) (orderly m.after_reserve m.after_tick (Tick t.now) t.ticked m.tick) in
        let b = signs_some (indexes m.after_tick) (indexes m.after_overlay)
        (heard steps indexes orderly peers t.arrived m.after_tick t.overlay m.after_overlay m.overlay) in
        let c = signs_some (indexes m.after_overlay) (indexes m.after_client)
        (replied steps indexes orderly t.reply m.after_overlay t.client m.after_client m.client) in
        let d = signs_some (indexes m.after_client) (indexes new) (polled_next steps indexes orderly t.frame m.after_client polled new m.poll) in (
          a.0 ++ (b.0 ++ (c.0 ++ d.0)),
          record { at_tick = a.0; at_overlay = b.0; at_client = c.0; at_poll = d.0; tick = a.1; overlay = b.1; client = c.1; poll = d.1; together = refl },
        )

    -- from this start on, at which this was signed
    module _ (total : ℕ) (few : total < 2 ^ 64) (found : List ℕ) (sound : IsSomeSound found) (started : Started) (between : Outside)
        (starts : Starts (Some (still found)) between.file.disk RESERVED total started) (start : N)
        (begins : TakesNext (indexes_at total started) (indexes start)) (peers : List Peer)
        (at_start : List Signing) (announces : SignsOne (indexes_at total started) (indexes start) at_start) where
      -- these turns were made, led here, and this was signed in them
      record SoFar (signed : List Signing) (last : N) (keys : KeyState) (now : KeptFile) : Type 0 where
        pub turns : List Turn
        pub moves : MovesOn steps indexes peers 0 turns start last
        pub in_turns : List Signing
        pub signs : SignsOn steps indexes peers 0 turns start last moves in_turns
        pub together : signed ≡ at_start ++ in_turns
        pub file : FileMovesOn started.state turns between.file now
        pub keys_are : keys ≡ keys_on started.state turns

      run_of : (signed : List Signing) (last : N) (keys : KeyState) (now : KeptFile) → keys.serial < 2 ^ 64 → SoFar signed last keys now
          → HasRun steps indexes found signed last keys now
      run_of signed last keys now serial so_far = record {
        total = total;
        few = few;
        started = started;
        begun = between.file;
        starts = starts;
        start = start;
        begins = begins;
        at_start = at_start;
        announces = announces;
        peers = peers;
        turns = so_far.turns;
        moves = so_far.moves;
        in_turns = so_far.in_turns;
        signs = so_far.signs;
        together = so_far.together;
        file = so_far.file;
        keys_are = so_far.keys_are;
        serial = serial;
      }

      -- the moments of a call that kept the keys
      kept_of : (signed : List Signing) (last : N) (keys : KeyState) (now after : KeptFile) → keys.serial < 2 ^ 64 → SoFar signed last keys now
          → KeepsKeys keys now.disk now.past after.past
          → ((image : List ℕ) → MayBeLeft now.past after.past image → TurnLeaves (indexes last) keys now image)
          → LeavesBetween steps indexes found signed now after
      kept_of signed last keys now after serial so_far keeps leaves =
          let run = run_of signed last keys now serial so_far in
          let sound_there = run_sound steps indexes orderly H5 [] found signed last keys now sound run in
          since_weaker now.past after.past (MayBeLeft now.past after.past) (IsStopped steps indexes found signed)
          (λ image may. In_turns signed image last keys now run (leaves image may))
          (since_may now.past after.past (Keeps keys.bound keys.boot) (keeps sound_there))

      -- where the file is as before there are none
      none_of : (signed : List Signing) (now after : KeptFile) → after ≡ now → LeavesBetween steps indexes found signed now after
      none_of signed now after same =
          subst (λ (f : KeptFile). LeavesBetween steps indexes found signed now f) (sym same) (since_none now.past (IsStopped steps indexes found signed))

      -- the moments of a turn
      turn_of : (reserved : Option ℕ) (signed : List Signing) (last : N) (keys : KeyState) (now after : KeptFile) → keys.serial < 2 ^ 64
          → SoFar signed last keys now
          → reserved ≡ reserved_by (indexes last) → FileMoves reserved keys now after → LeavesBetween steps indexes found signed now after
      turn_of None signed last keys now after serial so_far due moves = none_of signed now after moves
      turn_of (Some upto) signed last keys now after serial so_far due moves =
          kept_of signed last keys now after serial so_far moves.kept (λ image may. In_its_reserve upto after due moves may)

      one_more : (t : Turn) (signed more : List Signing) (old new : N) (keys : KeyState) (now after : KeptFile) (so_far : SoFar signed old keys now) (turn : ℕ)
          → turn ≡ length so_far.turns
          → (m : Moves steps indexes peers (polled_by peers turn) t old new) → SignsInTurn steps indexes peers (polled_by peers turn) t old new m more
          → FileMoves t.reserved keys now after
          → (next : SoFar (signed ++ more) new (keys_after keys t.reserved) after) × (turn + 1 ≡ length next.turns)
      one_more t signed more old new keys now after so_far turn place m signs moves =
          let ts = so_far.turns in
          let here = shift turn (0 + length ts) (let e : turn ≡ 0 + length ts = omega (arith, place) in e) t old new m more signs in
          let on = moves_more peers 0 ts t start old new so_far.moves here.0 so_far.in_turns more so_far.signs here.1 in (
            record {
              turns = ts ++ t ∷ [];
              moves = on.0;
              in_turns = so_far.in_turns ++ more;
              signs = on.1;
              together = ap (λ (l : List Signing). l ++ more) so_far.together ∙ append_assoc at_start so_far.in_turns more;
              file = files_more started.state ts t between.file now after so_far.file
                  (subst (λ (k : KeyState). FileMoves t.reserved k now after) so_far.keys_are moves);
              keys_are = ap (λ (k : KeyState). keys_after k t.reserved) so_far.keys_are ∙ sym (keys_more started.state ts t);
            },
            (let pushed = length_push ts t in omega (arith, place, pushed)),
          )
        where
          shift : (n k : ℕ) → n ≡ k → (t : Turn) (old new : N) (m : Moves steps indexes peers (polled_by peers n) t old new) (more : List Signing)
              → SignsInTurn steps indexes peers (polled_by peers n) t old new m more
              → (on : Moves steps indexes peers (polled_by peers k) t old new) × SignsInTurn steps indexes peers (polled_by peers k) t old new on more
          shift n k is t old new m more here =
              subst (λ (i : ℕ). (on : Moves steps indexes peers (polled_by peers i) t old new)
              × SignsInTurn steps indexes peers (polled_by peers i) t old new on more) is (m, here)

      -- the moments of turns, and those after them
      turns_of : (ts : List Turn) (old last : N) (keys : KeyState) (now mid after : KeptFile) (signed : List Signing) (turn : ℕ)
          (so_far : SoFar signed old keys now)
          → turn ≡ length so_far.turns → (keys_on keys ts).serial < 2 ^ 64
          → (moves : MovesOn steps indexes peers turn ts old last) (file : FileMovesOn keys ts now mid)
          → ((all : List Signing) → SoFar all last (keys_on keys ts) mid → LeavesBetween steps indexes found all mid after)
          → LeavesOn steps indexes found peers turn ts old last moves keys now mid after file signed
      turns_of [] old last keys now mid after signed turn so_far place serial moves file then =
          then signed (subst (λ (f : KeptFile). SoFar signed last keys f) (sym file) (subst (λ (n : N). SoFar signed n keys now) (sym moves) so_far))
      turns_of (t ∷ ts) old last keys now mid after signed turn so_far place serial moves file then =
          let low = serials steps indexes orderly keys (t ∷ ts) in (
            turn_of t.reserved signed old keys now file.0 (omega (arith, low, serial)) so_far moves.1.due file.1,
            (λ more signs.
                let next = one_more t signed more old moves.0 keys now file.0 so_far turn place moves.1 signs file.1 in
                turns_of ts moves.0 last (keys_after keys t.reserved) file.0 mid after (signed ++ more) (turn + 1) next.0 next.1 serial moves.2 file.2 then),
          )

      -- all turns, and what comes after them
      ran_of : (ts : List Turn) (last : N) (text : Text) (mid after : Outside)
          (ran : Ran steps indexes peers ts start last started.state (record between { text = text }) mid)
          → ((all : List Signing) → SoFar all last (keys_on started.state ts) mid.file → LeavesBetween steps indexes found all mid.file after.file)
          → LeavesOn steps indexes found peers 0 ts start last ran.moves started.state between.file mid.file after.file ran.file at_start
      ran_of ts last text mid after ran =
          turns_of ts start last started.state between.file mid.file after.file at_start 0
          (record { turns = []; moves = refl; in_turns = []; signs = refl; together = sym (append-nil at_start); file = refl; keys_are = refl }) refl
          ran.held.serial ran.moves ran.file

      last_of : (signed : List Signing) (polled : Option Peer) (last : N) (keys : KeyState) (before after : Outside) (ended : Served) → keys.serial < 2 ^ 64
          → SoFar signed last keys before.file
          → EndsTurn steps indexes peers polled last keys before after ended → LeavesBetween steps indexes found signed before.file after.file
      last_of signed polled last keys before after ended serial so_far (Spent refused no_more wire clock told) =
          kept_of signed last keys before.file after.file serial so_far no_more.kept (λ image may. Without_reserve refused after.file no_more may)
      last_of signed polled last keys before after ended serial so_far (Broken why early) =
          turn_of early.t.reserved signed last keys before.file after.file serial so_far early.due early.file

      after_of : (count : ℕ) (text : Text) (after : Outside) (ended : Served)
          (ends : EndsAfter steps indexes peers count start started.state (record between { text = text }) after ended)
          → LeavesAfter steps indexes found at_start peers count start started.state (record between { text = text }) after ended ends
      after_of count text after ended (Whole turns last mid made ran quiet finishes) =
          ran_of turns last text mid after ran (λ all so_far. none_of all mid.file after.file quiet.2)
      after_of count text after ended (Stopped turns last mid made ran ends) =
          ran_of turns last text mid after ran
          (λ all so_far. last_of all (polled_by peers (length turns)) last (keys_on started.state turns) mid after ended ran.held.serial so_far ends)

      turns_end : (count : ℕ) (after : Outside) (ended : Served)
          (ends : EndsTurns steps indexes peers (opening_of started) count start started.state between after ended)
          → LeavesTurns steps indexes found at_start peers (opening_of started) count start started.state between after ended ends
      turns_end count after ended (Unbegun quiet fails) = none_of at_start between.file after.file quiet.2
      turns_end count after ended (Is_begun text first ends) = after_of count text after ended ends

-- the moments of a start, or of one that the file didn't give
pub start_moments : {N : Type 0} (steps : Steps N) (indexes : N → Indexes) (found : List ℕ) (before after : KeptFile) → IsSomeSound found
    → KeepsAll (Some (still found)) before.past after.past → LeavesBetween steps indexes found [] before after
start_moments steps indexes found before after sound kept =
    since_weaker before.past after.past (MayBeLeft before.past after.past) (IsStopped steps indexes found [])
    (λ image may. At_start image before.past after.past kept may)
    (since_may before.past after.past (Keeps sound.numbers.bound sound.numbers.boot) (kept found sound.slot sound.numbers refl sound.sound))

-- and then those of the turns
pub each_moment : {N : Type 0} (steps : Steps N) (indexes : N → Indexes) → EachMomentIsOfARun steps indexes
each_moment steps indexes orderly ports total found started peers count start ended before between after few still_found sound opened begins ends =
    let starts : Starts (Some (still found)) between.file.disk RESERVED total started =
    subst (λ (d : Option Disk). Starts d between.file.disk RESERVED total started) still_found opened.starts in
    let kept : KeepsAll (Some (still found)) before.file.past between.file.past =
    subst (λ (d : Option Disk). KeepsAll d before.file.past between.file.past) still_found opened.kept in (
      start_moments steps indexes found before.file between.file sound kept,
      λ signed announces. turns_end steps indexes orderly total few found sound started between starts start begins peers signed announces count after ended
          ends,
    )
