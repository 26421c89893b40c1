-- What is kept of the one-time indexes and the boots of a node over a run: what it signed so far was signed below its next index where it runs, and below the
-- bound of its key file; and it took no boot above the one in that file. An event in which nothing is signed and no node starts keeps it.
use Rattle.std.proofs.Common.{◌≡◌, ◌<◌, ◌≤◌, ℕ, zero, suc, ◌+◌, ◌-◌, ◌==◌, Bool, true, false, cond, List, [], ◌∷◌, ◌++◌, slice_set, Option, Some, None, refl}
use Rattle.std.proofs.Common.{sym, ap, subst, ◌∙◌, arith, length, append_assoc}
use Rattle.std.specs.Prelude.{slice_index_or}
use Rattle.std.specs.List.{All, AllPairs, flat_map}
use Rattle.std.proofs.lemmas.List.{append-nil}
use Rattle.std.proofs.lemmas.List.Elements.{All-push, All-weaker}
use Rattle.std.proofs.lemmas.List.Quantifiers.{all_pairs_push}
use Rattle.sp_base.specs.declared.id.NodeId.{NodeId}
use Rattle.sp_epoch.specs.Numbers.{next_bound, numbers_at, with_numbers}
use Rattle.sp_keystate.specs.States.{first_numbers}
use Rattle.sp_keystate.specs.declared.numbers.Numbers.{Numbers}
use Rattle.sp_rules.specs.Node.{NodeState}
use Rattle.sp_runs.specs.Inputs.{acting}
use Rattle.sp_runs.specs.Lives.{IsOther, is_short, ready, reserved, reserved_if}
use Rattle.sp_runs.specs.Settings.{Setting}
use Rattle.sp_runs.specs.Told.{signed_by, told_at}
use Rattle.sp_runs.specs.Worlds.{World, node_in}
use Rattle.sp_journal.specs.declared.entry.Entry.{Entry}
use Rattle.sp_journal.specs.declared.entry.Reply.{Reply}
use Rattle.sp_schedule_events.specs.declared.event.Event.{Event}
use Rattle.sp_schedule_events.specs.declared.event.Event.TheVariants as events
use Rattle.laws_runs.specs.KeyFiles.{KeysStand}
use Rattle.laws_runs.specs.LifeKeys.{boot_in, boots, index_at, indexed, signatures}
use Rattle.laws_runs.specs.Past.{Happened}
use Rattle.laws_runs.proofs.PastFacts.{past_more}
use Rattle.laws_runs.proofs.Ready.{Extended, As_was, Readied, ready_boots, was_there}
use Rattle.laws_runs.proofs.Signed.{signs}

-- ---- numbers of key files

-- no bound falls where the one that is written isn't lower
bounds_rise : (ks : List Numbers) (i k : ℕ) (n : Numbers) → (slice_index_or ks i first_numbers).bound ≤ n.bound
    → (slice_index_or ks k first_numbers).bound ≤ (slice_index_or (slice_set ks i n) k first_numbers).bound
bounds_rise [] i k n up = omega arith
bounds_rise (m ∷ ks) zero zero n up = up
bounds_rise (m ∷ ks) zero (suc k) n up = omega arith
bounds_rise (m ∷ ks) (suc i) zero n up = omega arith
bounds_rise (m ∷ ks) (suc i) (suc k) n up = bounds_rise ks i k n up

-- a reserve lowers no bound, and neither does a start
pub more_bound : (x : Setting) (es : List Event) (w : World) (u v : NodeId) (boot serial : ℕ) → KeysStand x es w
    → (numbers_at w.keys v).bound
    ≤ (numbers_at (with_numbers w.keys u (record { serial = serial; bound = next_bound x.total (numbers_at w.keys u); boot = boot })) v).bound
more_bound x es w u v boot serial h =
    bounds_rise w.keys (u.0 - 1) (v.0 - 1) (record { serial = serial; bound = next_bound x.total (numbers_at w.keys u); boot = boot })
    (let most = (h.numbers u).bound in omega (arith, most))

ready_bounds : (x : Setting) (es : List Event) (w : World) (e : Event) (v : NodeId) → KeysStand x es w
    → (numbers_at w.keys v).bound ≤ (numbers_at (ready x w e).keys v).bound
ready_bounds x es w e v h = go x.epochs (node_in w.nodes (acting e))
  where
    short : (b : NodeState) (t : Bool) → (numbers_at w.keys v).bound ≤ (numbers_at (cond t (reserved x w b) w).keys v).bound
    short b true = more_bound x es w b.fixed.me v (numbers_at w.keys b.fixed.me).boot ((numbers_at w.keys b.fixed.me).serial + 1) h
    short b false = omega arith

    go : (on : Bool) (found : Option NodeState) → (numbers_at w.keys v).bound ≤ (numbers_at (cond on (reserved_if x w found) w).keys v).bound
    go false found = omega arith
    go true None = omega arith
    go true (Some b) = short b (is_short b)

-- ---- what an event tells

pub told_none : (u : NodeId) (e : Event) (j : Entry) → flat_map signed_by j.effects ≡ [] → told_at u signed_by (e, j) ≡ []
told_none u e j none = go ((acting e).0 == u.0)
  where
    go : (t : Bool) → cond t (flat_map signed_by j.effects) [] ≡ []
    go true = none
    go false = refl

pub no_boot : (u : NodeId) (e : Event) (r : Reply) → IsOther e → boot_in u e r ≡ []
no_boot u (events.Rel s d p) r other = refl
no_boot u (events.Krel s d count p) r other = refl
no_boot u (events.Prio s d prio expiry paths p) r other = refl
no_boot u (events.Take d s) r other = refl
no_boot u (events.KTake d s) r other = refl
no_boot u (events.TakePrio d) r other = refl
no_boot u (events.Tick v now) r other = refl
no_boot u (events.Weight a b k) r other = refl
no_boot u (events.Poll a b) r other = refl
no_boot u (events.Pass a b k) r other = refl
no_boot u (events.Flip a b k back bit) r other = refl
no_boot u (events.Inject a b bytes) r other = refl
no_boot u (events.Craft c v key object) r other = refl
no_boot u (events.CraftStatus c v s d base have) r other = refl
no_boot u (events.Publish u' weights) r other = refl
no_boot u (events.CraftDocument c' v' key' version weights) r other = refl
no_boot u (events.Start v) r other = absurd other
no_boot u (events.Stop v) r other = absurd other

-- ---- the invariant

-- all that was signed was signed with indexes below this one
abbrev pub SignedBelow : ℕ → List (ℕ × List ℕ) → Type 0
SignedBelow index signatures = All (λ s. s.0 < index) signatures

-- all of them are at most this boot
abbrev pub UpTo : ℕ → List ℕ → Type 0
UpTo boot boots = All (λ b. b ≤ boot) boots

pub below_more : (a b : ℕ) (ss : List (ℕ × List ℕ)) → a ≤ b → SignedBelow a ss → SignedBelow b ss
below_more a b ss up h = All-weaker (λ (s : ℕ × List ℕ). s.0 < a) (λ (s : ℕ × List ℕ). s.0 < b) (λ s low. omega (arith, low, up)) ss h

pub up_to_more : (a b : ℕ) (bs : List ℕ) → a ≤ b → UpTo a bs → UpTo b bs
up_to_more a b bs up h = All-weaker (λ (c : ℕ). c ≤ a) (λ (c : ℕ). c ≤ b) (λ c low. omega (arith, low, up)) bs h

pub record KeysHold (x : Setting) (u : NodeId) (ss : List (ℕ × List ℕ)) (bs : List ℕ) (w : World) : Type 0 where
  pub rise : AllPairs (λ one two. one.0 < two.0) ss
  -- below the next index of the node, where it runs
  pub index : (n : NodeState) → node_in w.nodes u ≡ Some n → SignedBelow n.signer.index ss
  -- and with epochs below the bound of its key file, where it doesn't too
  pub bound : x.epochs ≡ true → SignedBelow (numbers_at w.keys u).bound ss
  pub boots : AllPairs (λ one two. one < two) bs
  pub boot : UpTo (numbers_at w.keys u).boot bs

-- nothing is signed and no node starts: the nodes that run did before, and signed no less; no number of a key file is lower
pub record GoesOn (u : NodeId) (old new : World) : Type 0 where
  pub node : (n : NodeState) → node_in new.nodes u ≡ Some n → (b : NodeState) × (node_in old.nodes u ≡ Some b) × (b.signer.index ≤ n.signer.index)
  pub bound : (numbers_at old.keys u).bound ≤ (numbers_at new.keys u).bound
  pub boot : (numbers_at old.keys u).boot ≤ (numbers_at new.keys u).boot

pub keys_go_on : (x : Setting) (u : NodeId) (ss : List (ℕ × List ℕ)) (bs : List ℕ) (old new : World) → GoesOn u old new → KeysHold x u ss bs old
    → KeysHold x u ss bs new
keys_go_on x u ss bs old new on h = record {
  rise = h.rise;
  index = λ n at. let was = on.node n at in below_more was.0.signer.index n.signer.index ss was.2 (h.index was.0 was.1);
  bound = λ epochs. below_more (numbers_at old.keys u).bound (numbers_at new.keys u).bound ss on.bound (h.bound epochs);
  boots = h.boots;
  boot = up_to_more (numbers_at old.keys u).boot (numbers_at new.keys u).boot bs on.boot h.boot;
}

-- one more index is used
pub sign_one : (index : ℕ) (message : List ℕ) (ss : List (ℕ × List ℕ)) → AllPairs (λ one two. one.0 < two.0) ss → SignedBelow index ss
    → AllPairs (λ one two. one.0 < two.0) (ss ++ (index, message) ∷ []) × SignedBelow (index + 1) (ss ++ (index, message) ∷ [])
sign_one index message ss rise below = (
  all_pairs_push (λ (one two : ℕ × List ℕ). one.0 < two.0) ss (index, message) rise below,
  All-push (λ (s : ℕ × List ℕ). s.0 < index + 1) ss (index, message) (below_more index (index + 1) ss (omega arith) below) (omega arith),
)

-- so are as many as there are messages
pub sign_all : (index : ℕ) (messages : List (List ℕ)) (ss : List (ℕ × List ℕ)) → AllPairs (λ one two. one.0 < two.0) ss → SignedBelow index ss
    → AllPairs (λ one two. one.0 < two.0) (ss ++ indexed index messages) × SignedBelow (index + length messages) (ss ++ indexed index messages)
sign_all index [] ss rise below =
    subst (λ (all : List (ℕ × List ℕ)). AllPairs (λ one two. one.0 < two.0) all × SignedBelow (index + 0) all) (sym (append-nil ss))
    (rise, below_more index (index + 0) ss (omega arith) below)
sign_all index (message ∷ messages) ss rise below =
    let one = sign_one index message ss rise below in
    let all = sign_all (index + 1) messages (ss ++ (index, message) ∷ []) one.0 one.1 in
    let long = ss ++ indexed index (message ∷ messages) in
    let same : (ss ++ (index, message) ∷ []) ++ indexed (index + 1) messages ≡ long =
    append_assoc ss ((index, message) ∷ []) (indexed (index + 1) messages) in (
      subst (λ (these : List (ℕ × List ℕ)). AllPairs (λ one two. one.0 < two.0) these) same all.0,
      subst (λ (these : List (ℕ × List ℕ)). SignedBelow (index + length (message ∷ messages)) these) same
          (below_more ((index + 1) + length messages) (index + length (message ∷ messages)) _ (omega arith) all.1),
    )

-- one more boot is taken
pub boot_one : (boot : ℕ) (bs : List ℕ) → AllPairs (λ one two. one < two) bs → UpTo boot bs
    → AllPairs (λ one two. one < two) (bs ++ (boot + 1) ∷ []) × UpTo (boot + 1) (bs ++ (boot + 1) ∷ [])
boot_one boot bs rise low = (
  all_pairs_push (λ (one two : ℕ). one < two) bs (boot + 1) rise (λ k d within. let it = low k d within in omega (arith, it)),
  All-push (λ (b : ℕ). b ≤ boot + 1) bs (boot + 1) (up_to_more boot (boot + 1) bs (omega arith) low) (omega arith),
)

-- the same of a past
abbrev pub PastHolds : Setting → NodeId → List Happened → World → Type 0
PastHolds x u happened w = KeysHold x u (signatures happened u) (boots happened u) w

-- what one event tells of it
abbrev pub signs_in : NodeId → Happened → List (ℕ × List ℕ)
signs_in u h = indexed (index_at h.entry.reply h.mover) (told_at u signed_by (h.event, h.entry))

abbrev pub starts_in : NodeId → Happened → List ℕ
starts_in u h = boot_in u h.event h.entry.reply

pub past_holds : (x : Setting) (u : NodeId) (before : List Happened) (h : Happened) (w : World) (ss : List (ℕ × List ℕ)) (bs : List ℕ) → signs_in u h ≡ ss
    → starts_in u h ≡ bs → KeysHold x u (signatures before u ++ ss) (boots before u ++ bs) w → PastHolds x u (before ++ h ∷ []) w
past_holds x u before h w ss bs signs starts holds =
    let all = past_more (signs_in u) before h ∙ ap (λ (t : List (ℕ × List ℕ)). signatures before u ++ t) signs in
    let begun = past_more (starts_in u) before h ∙ ap (λ (t : List ℕ). boots before u ++ t) starts in
    subst (λ (t : List (ℕ × List ℕ)). KeysHold x u t (boots (before ++ h ∷ []) u) w) (sym all)
    (subst (λ (t : List ℕ). KeysHold x u (signatures before u ++ ss) t w) (sym begun) holds)

-- an event that tells nothing of it
pub past_goes_on : (x : Setting) (u : NodeId) (before : List Happened) (e : Event) (j : Entry) (mover : Option NodeState) (old new : World)
    → told_at u signed_by (e, j) ≡ [] → boot_in u e j.reply ≡ [] → GoesOn u old new → PastHolds x u before old
    → PastHolds x u (before ++ record { event = e; entry = j; mover = mover } ∷ []) new
past_goes_on x u before e j mover old new none starts on h =
    past_holds x u before (record { event = e; entry = j; mover = mover }) new [] [] (ap (indexed (index_at j.reply mover)) none) starts
    (subst (λ (t : List (ℕ × List ℕ)). KeysHold x u t (boots before u ++ []) new) (sym (append-nil (signatures before u)))
    (subst (λ (t : List ℕ). KeysHold x u (signatures before u) t new) (sym (append-nil (boots before u)))
    (keys_go_on x u (signatures before u) (boots before u) old new on h)))

-- ---- events in which nothing is signed

-- the world in which a node acts
pub ready_goes_on : (x : Setting) (es : List Event) (w : World) (e : Event) (u : NodeId) → KeysStand x es w → GoesOn u w (ready x w e)
ready_goes_on x es w e u keys = record {
  node = λ n at. let was = was_there x w e u n at in (was.before, was.is_there, same_index was.before n was.readied);
  bound = ready_bounds x es w e u keys;
  boot = let same = ready_boots x w e u in omega (arith, same);
}
  where
    same_index : (b n : NodeState) → Readied x w b n → b.signer.index ≤ n.signer.index
    same_index b n (As_was same) = let is = ap (λ (m : NodeState). m.signer.index) same in omega (arith, is)
    same_index b n (Extended on short same) = let is = ap (λ (m : NodeState). m.signer.index) same in omega (arith, is)

-- one thing after another
pub in_turn : (u : NodeId) (a b c : World) → GoesOn u a b → GoesOn u b c → GoesOn u a c
in_turn u a b c one two = record {
  node = λ n at.
      let last = two.node n at in
      let first = one.node last.0 last.1 in
      (first.0, first.1, let up = first.2 in let more = last.2 in omega (arith, up, more));
  bound = let up = one.bound in let more = two.bound in omega (arith, up, more);
  boot = let up = one.boot in let more = two.boot in omega (arith, up, more);
}

-- the same nodes run, or fewer of them, and key files are the same
pub as_before : (u : NodeId) (old new : World) → ((n : NodeState) → node_in new.nodes u ≡ Some n → node_in old.nodes u ≡ Some n) → new.keys ≡ old.keys
    → GoesOn u old new
as_before u old new nodes keys = record {
  node = λ n at. (n, nodes n at, omega arith);
  bound = let same = ap (λ (k : List Numbers). (numbers_at k u).bound) keys in omega (arith, same);
  boot = let same = ap (λ (k : List Numbers). (numbers_at k u).boot) keys in omega (arith, same);
}
