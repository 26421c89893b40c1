-- A run of a daemon, turn by turn, as the acts of a start.
use Rattle.std.proofs.Common.{◌≡◌, ℕ, ◌+◌, ◌<◌, ◌≤◌, inl, inr, Bool, true, false, List, [], ◌∷◌, ◌++◌, Option, None, Some, refl, sym, ap, subst, ◌∙◌, arith}
use Rattle.std.specs.Prelude.{◌≢◌, ◌^◌, ◌-◌, ◌&&◌, nat_lt, min, if◌then◌else◌}
use Rattle.std.proofs.lemmas.Bool.Decides.{nat_tests}
use Rattle.std.proofs.lemmas.Option.{none-some}
use Rattle.sp_base.specs.declared.id.NodeId.{NodeId}
use Rattle.sp_hss.specs.Signer.{Signer}
use Rattle.sp_hss.specs.Uses.{Signing}
use Rattle.sp_keystate.specs.Changes.{Changes}
use Rattle.sp_keystate.specs.Slots.{IsInRange, other, place}
use Rattle.sp_keystate.specs.States.{changed_state, next_numbers}
use Rattle.sp_keystate.specs.declared.key_state.KeyState.{KeyState}
use Rattle.sp_keystate.proofs.Pieces.{same_some}
use Rattle.sp_outside.specs.Calls.{Came, Got, Lost, Nothing}
use Rattle.sp_outside.specs.Disk.{Disk}
use Rattle.sp_service_turns.specs.Indexes.{are_few, next_bound, reserved_by}
use Rattle.sp_service_turns.specs.Inputs.{Datagram, Poll, Request, Reserve, Steps, Tick}
use Rattle.sp_service_turns.specs.Keys.{FileMoves, keys_after}
use Rattle.sp_service_turns.specs.Outside.{KeptFile}
use Rattle.sp_service_turns.specs.Runs.{FileMovesOn, MovesOn, keys_on, polled_by}
use Rattle.sp_service_turns.specs.Turns.{Hears, HearsFrom, Moves, Polls, Replies, Restocks, Turn, node_at}
use Rattle.sp_service_turns.specs.declared.indexes.Indexes.{Indexes}
use Rattle.sp_service_turns.specs.declared.peer.Peer.{Peer}
use Rattle.laws_keystate.specs.Calls.{IsAt}
use Rattle.laws_keystate.specs.Runs.{Nothing_signed, One_at_most, One_signed, SignsInOrder, SignsInTurn, SignsOn, SignsOne, SignsTwo, TakesNext, TakesTwo}
use Rattle.laws_keystate.specs.Runs.{Two_signed}
use Rattle.laws_keystate.specs.Starts.{Act, And_then, Boots, DoesAll, Extends, Nothing_more, Reserves, Signs, Standing, signings_of}
use Rattle.laws_keystate.proofs.CallLemmas.{a_reserve_is_an_act}

-- ---- acts one after another

pub does_on : (a b c : Standing) (xs ys : List Act) → DoesAll a xs b → DoesAll b ys c → DoesAll a (xs ++ ys) c
does_on a b c xs ys (Nothing_more s) later = later
does_on a b c xs ys (And_then old between new act acts does more) later =
    And_then old between c act (acts ++ ys) does (does_on between new c acts ys more later)

pub signings_on : (xs ys : List Act) → signings_of (xs ++ ys) ≡ signings_of xs ++ signings_of ys
signings_on [] ys = refl
signings_on (Boots boot ∷ xs) ys = signings_on xs ys
signings_on (Reserves bound ∷ xs) ys = signings_on xs ys
signings_on (Extends upto ∷ xs) ys = signings_on xs ys
signings_on (Signs index message ∷ xs) ys = ap (λ (l : List Signing). record { index = index; message = message } ∷ l) (signings_on xs ys)

-- ---- how a node stands by a start

-- the start stands as the key file and the node do
pub record Fits (s : Standing) (told : Option Disk) (keys : KeyState) (i : Indexes) : Type 0 where
  pub at : IsAt told keys s
  pub index : s.signer.index ≡ i.index
  pub bound : s.signer.bound ≡ i.bound
  pub kept : keys.bound ≡ i.bound
  pub ordered : i.index ≤ i.bound
  pub within : i.bound ≤ i.total
  pub few : i.total < 2 ^ 64
  pub boot : keys.boot < 2 ^ 64

-- it did these acts, with these signatures, and stands so
pub record Went (s : Standing) (told : Option Disk) (keys : KeyState) (i : Indexes) (signed : List Signing) : Type 0 where
  pub next : Standing
  pub acts : List Act
  pub does : DoesAll s acts next
  pub fits : Fits next told keys i
  pub signs : signings_of acts ≡ signed

pub went_none : (s : Standing) (told : Option Disk) (keys : KeyState) (i : Indexes) → Fits s told keys i → Went s told keys i []
went_none s told keys i fits = record { next = s; acts = []; does = Nothing_more s; fits = fits; signs = refl }

pub went_on : (s : Standing) (told after : Option Disk) (keys new : KeyState) (i j : Indexes) (one two : List Signing) → (w : Went s told keys i one)
    → Went w.next after new j two → Went s after new j (one ++ two)
went_on s told after keys new i j one two w v = record {
  next = v.next;
  acts = w.acts ++ v.acts;
  does = does_on s w.next v.next w.acts v.acts w.does v.does;
  fits = v.fits;
  signs = signings_on w.acts v.acts ∙ ap (λ (l : List Signing). l ++ signings_of v.acts) w.signs ∙ ap (λ (l : List Signing). one ++ l) v.signs;
}

-- ---- a signature

signs_next : (s : Standing) (told : Option Disk) (keys : KeyState) (i j : Indexes) (message : List ℕ) → Fits s told keys i → i.index ≢ i.bound
    → j ≡ record i { index = i.index + 1 } → Went s told keys j (record { index = i.index; message = message } ∷ [])
signs_next s told keys i j message fits apart is =
    let order = fits.ordered in
    let at_index = fits.index in
    let at_bound = fits.bound in
    let below : i.index < i.bound = less i.index i.bound order apart in
    let next : Standing = record s { signer = record s.signer { index = s.signer.index + 1 } } in
    let moved : Fits next told keys (record i { index = i.index + 1 }) = record {
      at = record { disk = fits.at.disk; slot = fits.at.slot; numbers = fits.at.numbers };
      index = ap (λ (n : ℕ). n + 1) fits.index;
      bound = fits.bound;
      kept = fits.kept;
      ordered = omega (arith, below);
      within = fits.within;
      few = fits.few;
      boot = fits.boot;
    } in
    record {
      next = next;
      acts = Signs i.index message ∷ [];
      does = And_then s next next (Signs i.index message) [] (sym fits.index, omega (arith, below, at_bound), refl) (Nothing_more next);
      fits = subst (Fits next told keys) (sym is) moved;
      signs = refl;
    }
  where
    less : (a b : ℕ) → a ≤ b → a ≢ b → a < b
    less a b order apart = go (nat_lt a b) refl
      where
        go : (t : Bool) → nat_lt a b ≡ t → a < b
        go true is = grind (arith, nat_tests)
        go false is = absurd (apart (let high : b ≤ a = grind (arith, nat_tests) in omega (arith, order, high)))

-- a step that takes the next index or none, with what was signed in it
pub signs_one : (s : Standing) (told : Option Disk) (keys : KeyState) (i j : Indexes) (signed : List Signing) → Fits s told keys i → TakesNext i j
    → SignsOne i j signed
    → Went s told keys j signed
signs_one s told keys i j signed fits (inl same) (Nothing_signed is) = went_none s told keys j (subst (Fits s told keys) (sym same) fits)
signs_one s told keys i j signed fits (inl same) (One_signed message is) = absurd (omega (arith, is, ap (λ (x : Indexes). x.index) same))
signs_one s told keys i j signed fits (inr took) (Nothing_signed is) = absurd (omega (arith, is, ap (λ (x : Indexes). x.index) took.1))
signs_one s told keys i j signed fits (inr took) (One_signed message is) = signs_next s told keys i j message fits took.0 took.1

-- a step that takes the next two, with what was signed in it
pub signs_two : (s : Standing) (told : Option Disk) (keys : KeyState) (i j : Indexes) (signed : List Signing) → Fits s told keys i → TakesTwo i j
    → SignsTwo i j signed
    → Went s told keys j signed
signs_two s told keys i j signed fits (m, inl same, next) (One_at_most _ signs) =
    signs_one s told keys i j signed fits (subst (λ (x : Indexes). TakesNext x j) same next) signs
signs_two s told keys i j signed fits (m, inr took, inl same) (One_at_most _ signs) = signs_one s told keys i j signed fits (inr (took.0, same ∙ took.1)) signs
signs_two s told keys i j signed fits (m, inr took, inr more) (One_at_most _ (Nothing_signed is)) =
    absurd (omega (arith, is, ap (λ (x : Indexes). x.index) took.1, ap (λ (x : Indexes). x.index) more.1))
signs_two s told keys i j signed fits (m, inr took, inr more) (One_at_most _ (One_signed message is)) =
    absurd (omega (arith, is, ap (λ (x : Indexes). x.index) took.1, ap (λ (x : Indexes). x.index) more.1))
signs_two s told keys i j signed fits (m, inl same, inl still) (Two_signed first second is) =
    absurd (omega (arith, is, ap (λ (x : Indexes). x.index) same, ap (λ (x : Indexes). x.index) still))
signs_two s told keys i j signed fits (m, inl same, inr took) (Two_signed first second is) =
    absurd (omega (arith, is, ap (λ (x : Indexes). x.index) same, ap (λ (x : Indexes). x.index) took.1))
signs_two s told keys i j signed fits (m, inr took, inl same) (Two_signed first second is) =
    absurd (omega (arith, is, ap (λ (x : Indexes). x.index) same, ap (λ (x : Indexes). x.index) took.1))
signs_two s told keys i j signed fits (m, inr took, inr more) (Two_signed first second is) =
    let one = signs_next s told keys i m first fits took.0 took.1 in
    let two = signs_next one.next told keys m j second one.fits more.0 more.1 in
    subst (λ (n : ℕ). Went s told keys j (record { index = i.index; message = first } ∷ record { index = n; message = second } ∷ []))
    (ap (λ (x : Indexes). x.index) took.1)
    (went_on s told told keys keys m j (record { index = i.index; message = first } ∷ []) (record { index = m.index; message = second } ∷ []) one two)

-- ---- a reserve

few_below : (i : Indexes) → are_few i ≡ true → i.bound < i.total
few_below i is = go (nat_lt (i.bound - i.index) 4) is
  where
    go : (t : Bool) → (t && nat_lt i.bound i.total) ≡ true → i.bound < i.total
    go true e = grind (arith, nat_tests)
    go false e = absurd (cc)

-- the bound that a turn reserves up to
pub due_bound : (i : Indexes) (upto : ℕ) → Some upto ≡ reserved_by i → (i.bound ≤ upto) × (upto ≤ i.total)
due_bound i upto is = go (are_few i) refl is
  where
    go : (t : Bool) → are_few i ≡ t → Some upto ≡ (if t then Some (next_bound i) else None) → (i.bound ≤ upto) × (upto ≤ i.total)
    go true few e =
        let less = few_below i few in
        let here : upto ≡ min (i.bound + 32) i.total = same_some upto (next_bound i) e in
        (grind (arith, less, here), grind (arith, here))
    go false few e = absurd (none-some upto (sym e))

reserves_more : (s : Standing) (told after : Option Disk) (keys : KeyState) (i j : Indexes) (upto : ℕ) → Fits s told keys i → Some upto ≡ reserved_by i
    → (changed_state keys upto keys.boot).serial < 2 ^ 64 → Changes told after (place (other keys.slot)) (next_numbers keys upto keys.boot)
    → j ≡ record i { bound = upto } → Went s after (changed_state keys upto keys.boot) j []
reserves_more s told after keys i j upto fits due serial changes is =
    let low = (due_bound i upto due).0 in
    let high = (due_bound i upto due).1 in
    let few = fits.few in
    let kept = fits.kept in
    let at_bound = fits.bound in
    let range : IsInRange (next_numbers keys upto keys.boot) = record { serial = serial; bound = omega (arith, high, few); boot = fits.boot } in
    let up : keys.bound ≤ upto = omega (arith, low, kept) in
    let act = a_reserve_is_an_act s told after keys (changed_state keys upto keys.boot) upto fits.at range up changes refl in
    let mid : Standing = act.0 in
    let signer : mid.signer ≡ s.signer = ap (λ (x : Standing). x.signer) act.1.1 in
    let numbers : mid.numbers.bound ≡ upto = ap (λ (x : Standing). x.numbers.bound) act.1.1 in
    let signer_bound : mid.signer.bound ≡ s.signer.bound = ap (λ (x : Signer). x.bound) signer in
    let signer_index : mid.signer.index ≡ s.signer.index = ap (λ (x : Signer). x.index) signer in
    let next : Standing = record mid { signer = record mid.signer { bound = upto } } in
    let order = fits.ordered in
    let moved : Fits next after (changed_state keys upto keys.boot) (record i { bound = upto }) = record {
      at = record { disk = act.2.disk; slot = act.2.slot; numbers = act.2.numbers };
      index = signer_index ∙ fits.index;
      bound = refl;
      kept = refl;
      ordered = omega (arith, order, low);
      within = high;
      few = fits.few;
      boot = fits.boot;
    } in
    record {
      next = next;
      acts = Reserves upto ∷ Extends upto ∷ [];
      does = And_then s mid next (Reserves upto) (Extends upto ∷ []) act.1
          (And_then mid next next (Extends upto) [] (omega (arith, signer_bound, at_bound, low), omega (arith, numbers), refl) (Nothing_more next));
      fits = subst (Fits next after (changed_state keys upto keys.boot)) (sym is) moved;
      signs = refl;
    }

-- ---- the parts of a turn

module _ {N : Type 0} (steps : Steps N) (indexes : N → Indexes) (orderly : SignsInOrder steps indexes) where
  stays : (old new : N) → new ≡ old → TakesNext (indexes old) (indexes new)
  stays old new is = inl (ap indexes is)

  heard_from : (node : Option NodeId) (arrived bytes : List ℕ) (old new : N) → HearsFrom steps node arrived old bytes new
      → TakesNext (indexes old) (indexes new)
  heard_from (Some node) arrived bytes old new hears = orderly old new (Datagram node bytes) arrived hears
  heard_from None arrived bytes old new hears = stays old new hears

  pub heard : (peers : List Peer) (arrived : List ℕ) (old : N) (got : Got) (new : N) → Hears steps peers arrived old got new
      → TakesNext (indexes old) (indexes new)
  heard peers arrived old (Came port bytes) new hears = heard_from (node_at peers port) arrived bytes old new hears
  heard peers arrived old Nothing new hears = stays old new hears
  heard peers arrived old Lost new hears = stays old new hears

  pub replied : (reply : List ℕ) (old : N) (got : Got) (new : N) → Replies steps reply old got new → TakesNext (indexes old) (indexes new)
  replied reply old (Came port bytes) new replies = orderly old new (Request port bytes) reply replies
  replied reply old Nothing new replies = stays old new replies
  replied reply old Lost new replies = stays old new replies

  pub polled_next : (frame : List ℕ) (old : N) (polled : Option Peer) (new : N) → Polls steps frame old polled new → TakesNext (indexes old) (indexes new)
  polled_next frame old (Some peer) new polls = orderly old new (Poll peer.node) frame polls
  polled_next frame old None new polls = stays old new polls

  restocked : (reserved : Option ℕ) (s : Standing) (keys : KeyState) (f g : KeptFile) (old new : N) → Fits s f.disk keys (indexes old)
      → reserved ≡ reserved_by (indexes old)
      → (keys_after keys reserved).serial < 2 ^ 64 → FileMoves reserved keys f g → Restocks steps reserved old new
      → Went s g.disk (keys_after keys reserved) (indexes new) []
  restocked None s keys f g old new fits due serial moves restocks =
      let disk : Fits s g.disk keys (indexes old) = subst (λ (k : KeptFile). Fits s k.disk keys (indexes old)) (sym moves) fits in
      went_none s g.disk keys (indexes new) (subst (λ (n : N). Fits s g.disk keys (indexes n)) (sym restocks) disk)
  restocked (Some upto) s keys f g old new fits due serial moves restocks =
      let bounds = due_bound (indexes old) upto due in
      reserves_more s f.disk g.disk keys (indexes old) (indexes new) upto fits due serial moves.change
      (orderly old new (Reserve upto) [] restocks bounds.0 bounds.1)

  pub turn_goes : (peers : List Peer) (polled : Option Peer) (t : Turn) (s : Standing) (keys : KeyState) (f g : KeptFile) (old new : N) (signed : List Signing)
      → Fits s f.disk keys (indexes old) → (keys_after keys t.reserved).serial < 2 ^ 64 → FileMoves t.reserved keys f g
      → (moves : Moves steps indexes peers polled t old new) → SignsInTurn steps indexes peers polled t old new moves signed
      → Went s g.disk (keys_after keys t.reserved) (indexes new) signed
  turn_goes peers polled t s keys f g old new signed fits serial file m signs =
      let later = keys_after keys t.reserved in
      let w0 = restocked t.reserved s keys f g old m.after_reserve fits m.due serial file m.reserve in
      let w1 = signs_two w0.next g.disk later (indexes m.after_reserve) (indexes m.after_tick) signs.at_tick w0.fits
      (orderly m.after_reserve m.after_tick (Tick t.now) t.ticked m.tick) signs.tick in
      let w2 = signs_one w1.next g.disk later (indexes m.after_tick) (indexes m.after_overlay) signs.at_overlay w1.fits
      (heard peers t.arrived m.after_tick t.overlay m.after_overlay m.overlay) signs.overlay in
      let w3 = signs_one w2.next g.disk later (indexes m.after_overlay) (indexes m.after_client) signs.at_client w2.fits
      (replied t.reply m.after_overlay t.client m.after_client m.client) signs.client in
      let w4 = signs_one w3.next g.disk later (indexes m.after_client) (indexes new) signs.at_poll w3.fits
      (polled_next t.frame m.after_client polled new m.poll) signs.poll in
      subst (Went s g.disk later (indexes new)) (sym signs.together)
      (went_on s g.disk g.disk later later (indexes m.after_reserve) (indexes new) [] _ w0
      (went_on w0.next g.disk g.disk later later (indexes m.after_tick) (indexes new) signs.at_tick _ w1
      (went_on w1.next g.disk g.disk later later (indexes m.after_overlay) (indexes new) signs.at_overlay _ w2
      (went_on w2.next g.disk g.disk later later (indexes m.after_client) (indexes new) signs.at_client signs.at_poll w3 w4))))

  pub serials : (keys : KeyState) (ts : List Turn) → keys.serial ≤ (keys_on keys ts).serial
  serials keys [] = omega arith
  serials keys (t ∷ ts) = let rest = serials (keys_after keys t.reserved) ts in let one = once keys t.reserved in omega (arith, rest, one)
    where
      once : (k : KeyState) (reserved : Option ℕ) → k.serial ≤ (keys_after k reserved).serial
      once k None = omega arith
      once k (Some upto) = omega arith

  pub turns_go : (peers : List Peer) (turn : ℕ) (ts : List Turn) (s : Standing) (keys : KeyState) (f g : KeptFile) (old new : N) (signed : List Signing)
      → Fits s f.disk keys (indexes old) → (keys_on keys ts).serial < 2 ^ 64 → FileMovesOn keys ts f g → (moves : MovesOn steps indexes peers turn ts old new)
      → SignsOn steps indexes peers turn ts old new moves signed → Went s g.disk (keys_on keys ts) (indexes new) signed
  turns_go peers turn [] s keys f g old new signed fits serial file moves signs =
      let disk : Fits s g.disk keys (indexes old) = subst (λ (k : KeptFile). Fits s k.disk keys (indexes old)) (sym file) fits in
      subst (Went s g.disk keys (indexes new)) (sym signs)
      (went_none s g.disk keys (indexes new) (subst (λ (n : N). Fits s g.disk keys (indexes n)) (sym moves) disk))
  turns_go peers turn (t ∷ ts) s keys f g old new signed fits serial file moves signs =
      let more = serials (keys_after keys t.reserved) ts in
      let w = turn_goes peers (polled_by peers turn) t s keys f file.0 old moves.0 signs.0 fits (omega (arith, more, serial)) file.1 moves.1 signs.2 in
      let v = turns_go peers (turn + 1) ts w.next (keys_after keys t.reserved) file.0 g moves.0 new signs.1 w.fits serial file.2 moves.2 signs.3 in
      subst (Went s g.disk (keys_on keys (t ∷ ts)) (indexes new)) (sym signs.4)
      (went_on s file.0.disk g.disk (keys_after keys t.reserved) (keys_on keys (t ∷ ts)) (indexes moves.0) (indexes new) signs.0 signs.1 w v)
