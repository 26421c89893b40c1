-- The world in which a node acts: it is as before, but for indexes that its node may have reserved.
use Rattle.std.proofs.Common.{◌≡◌, ◌<◌, ◌≤◌, ◌-◌, ℕ, zero, suc, Bool, true, false, cond, List, [], ◌∷◌, Option, Some, None, refl, sym, ap, subst, ◌∙◌, inl, inr}
use Rattle.std.proofs.Common.{arith}
use Rattle.std.specs.Prelude.{◌⊎◌, ◌&&◌, nat_lt, slice_index_or, slice_set}
use Rattle.std.specs.List.{list_any}
use Rattle.std.proofs.lemmas.Bool.{cases_Bool, ltb-false}
use Rattle.std.proofs.lemmas.Bool.Decides.{nat_tests}
use Rattle.std.proofs.lemmas.Option.{same_Some}
use Rattle.sp_base.specs.declared.id.NodeId.{NodeId}
use Rattle.sp_epoch.specs.Numbers.{after_more, next_bound, numbers_at}
use Rattle.sp_msg.specs.declared.kept.Kept.{Kept}
use Rattle.sp_keystate.specs.States.{first_numbers}
use Rattle.sp_keystate.specs.declared.numbers.Numbers.{Numbers}
use Rattle.sp_keystate.specs.declared.starts.TheConstants.{LEAST_LEFT}
use Rattle.sp_rules.specs.Arts.{Arts}
use Rattle.sp_rules.specs.Node.{NodeState, Signer, extended}
use Rattle.sp_runs.specs.Inputs.{acting}
use Rattle.sp_runs.specs.Lives.{is_short, ready, reserved, reserved_if}
use Rattle.sp_runs.specs.Settings.{Setting}
use Rattle.sp_runs.specs.Worlds.{Crafted, World, is_me, node_in}
use Rattle.sp_schedule_events.specs.declared.event.Event.{Event}
use Rattle.laws_node.specs.Shapes.{Shape}
use Rattle.laws_runs.specs.KeyFiles.{KeysStand}
use Rattle.laws_runs.specs.Signs.{NodeIs}
use Rattle.laws_runs.proofs.Running.{with_any}
use Rattle.laws_runs.proofs.Tables.{node_is, node_put}

-- without epochs it is the world
pub ready_plain : (x : Setting) (w : World) (e : Event) → x.epochs ≡ false → ready x w e ≡ w
ready_plain x w e plain = rw plain refl

-- ---- frames, crafts and what was published are as before

record Beside (w v : World) : Type 0 where
  directions : v.directions ≡ w.directions
  crafted : v.crafted ≡ w.crafted
  published : v.published ≡ w.published

beside : (x : Setting) (w : World) (e : Event) → Beside w (ready x w e)
beside x w e = go x.epochs (node_in w.nodes (acting e))
  where
    short : (b : NodeState) (t : Bool) → Beside w (cond t (reserved x w b) w)
    short b true = record { directions = refl; crafted = refl; published = refl }
    short b false = record { directions = refl; crafted = refl; published = refl }

    go : (on : Bool) (found : Option NodeState) → Beside w (cond on (reserved_if x w found) w)
    go false found = record { directions = refl; crafted = refl; published = refl }
    go true None = record { directions = refl; crafted = refl; published = refl }
    go true (Some b) = short b (is_short b)

-- reserves make no frame
pub ready_frames : (x : Setting) (w : World) (e : Event) → (ready x w e).directions ≡ w.directions
ready_frames x w e = (beside x w e).directions

-- reserves craft nothing
pub ready_crafts : (x : Setting) (w : World) (e : Event) → (ready x w e).crafted ≡ w.crafted
ready_crafts x w e = (beside x w e).crafted

-- reserves publish nothing
pub ready_published : (x : Setting) (w : World) (e : Event) → (ready x w e).published ≡ w.published
ready_published x w e = (beside x w e).published

-- and what is crafted makes no difference
pub ready_with : (x : Setting) (w : World) (e : Event) (crafted : List Crafted)
    → ready x (record w { crafted = crafted }) e ≡ record (ready x w e) { crafted = crafted }
ready_with x w e crafted = go x.epochs (node_in w.nodes (acting e))
  where
    short : (b : NodeState) (t : Bool)
        → cond t (reserved x (record w { crafted = crafted }) b) (record w { crafted = crafted }) ≡ record (cond t (reserved x w b) w) { crafted = crafted }
    short b true = refl
    short b false = refl

    go : (on : Bool) (found : Option NodeState)
        → cond on (reserved_if x (record w { crafted = crafted }) found) (record w { crafted = crafted })
        ≡ record (cond on (reserved_if x w found) w) { crafted = crafted }
    go false found = refl
    go true None = refl
    go true (Some b) = short b (is_short b)

-- ---- the same nodes run

-- the same nodes run after reserves
pub ready_any : (x : Setting) (w : World) (e : Event) (u : NodeId) → list_any (is_me u) (ready x w e).nodes ≡ list_any (is_me u) w.nodes
ready_any x w e u = go x.epochs (node_in w.nodes (acting e))
  where
    short : (b : NodeState) (t : Bool) → list_any (is_me u) (cond t (reserved x w b) w).nodes ≡ list_any (is_me u) w.nodes
    short b true = with_any u b.fixed.me (extended b (next_bound x.total (numbers_at w.keys b.fixed.me))) w.nodes refl
    short b false = refl

    go : (on : Bool) (found : Option NodeState) → list_any (is_me u) (cond on (reserved_if x w found) w).nodes ≡ list_any (is_me u) w.nodes
    go false found = refl
    go true None = refl
    go true (Some b) = short b (is_short b)

-- ---- each node is as before, or has more indexes

-- what a reserve makes of a node
pub data Readied (x : Setting) (w : World) (b n : NodeState) : Type 0 where
  As_was : n ≡ b → Readied x w b n
  Extended : x.epochs ≡ true → is_short b ≡ true → n ≡ extended b (next_bound x.total (numbers_at w.keys b.fixed.me)) → Readied x w b n

pub record WasThere (x : Setting) (w : World) (u : NodeId) (n : NodeState) : Type 0 where
  pub before : NodeState
  pub is_there : node_in w.nodes u ≡ Some before
  pub readied : Readied x w before n

-- a node that runs after reserves ran before them
pub was_there : (x : Setting) (w : World) (e : Event) (u : NodeId) (n : NodeState) → node_in (ready x w e).nodes u ≡ Some n → WasThere x w u n
was_there x w e u n at = go x.epochs refl (node_in w.nodes (acting e)) refl at
  where
    same : node_in w.nodes u ≡ Some n → WasThere x w u n
    same is = record { before = n; is_there = is; readied = As_was refl }

    short : (b : NodeState) → x.epochs ≡ true → node_in w.nodes (acting e) ≡ Some b → (t : Bool) → is_short b ≡ t
        → node_in (cond t (reserved x w b) w).nodes u ≡ Some n → WasThere x w u n
    short b on here false enough is = same is
    short b on here true few is =
        elim (node_put u b.fixed.me (extended b (next_bound x.total (numbers_at w.keys b.fixed.me))) n w.nodes refl is) [
          | inl it ↦ record {
            before = b;
            is_there = subst (λ (v : NodeId). node_in w.nodes v ≡ Some b) (sym (node_is w.nodes (acting e) b here) ∙ sym it.0) here;
            readied = Extended on few it.1;
          }
          | inr other ↦ same other.1
        ]

    go : (on : Bool) → x.epochs ≡ on → (found : Option NodeState) → node_in w.nodes (acting e) ≡ found
        → node_in (cond on (reserved_if x w found) w).nodes u ≡ Some n → WasThere x w u n
    go false off found here is = same is
    go true on None here is = same is
    go true on (Some b) here is = short b on here (is_short b) refl is

-- what it keeps is the same
pub readied_parts : (x : Setting) (w : World) (b n : NodeState) → Readied x w b n → (n.parts ≡ b.parts) × (n.fixed ≡ b.fixed)
readied_parts x w b n (As_was same) = (ap (λ (m : NodeState). m.parts) same, ap (λ (m : NodeState). m.fixed) same)
readied_parts x w b n (Extended on short same) = (ap (λ (m : NodeState). m.parts) same, ap (λ (m : NodeState). m.fixed) same)

pub readied_live : (x : Setting) (w : World) (b n : NodeState) → Readied x w b n → n.live ≡ b.live
readied_live x w b n (As_was same) = ap (λ (m : NodeState). m.live) same
readied_live x w b n (Extended on short same) = ap (λ (m : NodeState). m.live) same

-- ---- a reserve takes no boot

same_boot : (ks : List Numbers) (i k : ℕ) (n : Numbers) → n.boot ≡ (slice_index_or ks i first_numbers).boot
    → (slice_index_or (slice_set ks i n) k first_numbers).boot ≡ (slice_index_or ks k first_numbers).boot
same_boot [] i k n e = refl
same_boot (m ∷ ks) zero zero n e = e
same_boot (m ∷ ks) zero (suc k) n e = refl
same_boot (m ∷ ks) (suc i) zero n e = refl
same_boot (m ∷ ks) (suc i) (suc k) n e = same_boot ks i k n e

-- reserves change no boot
pub ready_boots : (x : Setting) (w : World) (e : Event) (v : NodeId) → (numbers_at (ready x w e).keys v).boot ≡ (numbers_at w.keys v).boot
ready_boots x w e v = go x.epochs (node_in w.nodes (acting e))
  where
    short : (b : NodeState) (t : Bool) → (numbers_at (cond t (reserved x w b) w).keys v).boot ≡ (numbers_at w.keys v).boot
    short b true = same_boot w.keys (b.fixed.me.0 - 1) (v.0 - 1) (after_more x.total (numbers_at w.keys b.fixed.me)) refl
    short b false = refl

    go : (on : Bool) (found : Option NodeState) → (numbers_at (cond on (reserved_if x w found) w).keys v).boot ≡ (numbers_at w.keys v).boot
    go false found = refl
    go true None = refl
    go true (Some b) = short b (is_short b)

-- ---- what it is stays

reserve_more : (x : Setting) (es : List Event) (w : World) (u : NodeId) (b : NodeState) → KeysStand x es w → x.epochs ≡ true → node_in w.nodes u ≡ Some b
    → (b.signer.bound ≤ next_bound x.total (numbers_at w.keys u)) × (next_bound x.total (numbers_at w.keys u) ≤ x.total)
reserve_more x es w u b h on at =
    let same = ((h.files on).nodes u b at).bound in
    let most = (h.numbers u).bound in
    (omega (arith, same, most), omega arith)

extended_is : (x : Setting) (P : Kept → Type 0) (u : NodeId) (n : NodeState) (upto : ℕ) → x.epochs ≡ true → n.signer.bound ≤ upto → upto ≤ x.total
    → NodeIs x P u n
    → NodeIs x P u (extended n upto)
extended_is x P u n upto on above within is = record {
  correct = is.correct;
  fixed = is.fixed;
  seed = is.seed;
  total = is.total;
  shape = ap (λ (s : Shape). record s { bound = upto }) is.shape;
  holds = record {
    fixed = is.holds.fixed;
    live = is.holds.live;
    now = is.holds.now;
    calls = is.holds.calls;
    links = is.holds.links;
    signer = record {
      index = let low = is.holds.signer.index in omega (arith, low, above);
      bound = let whole = is.total in omega (arith, within, whole);
      total = is.holds.signer.total;
    };
    parts = is.holds.parts;
  };
  acks = is.acks;
  obeys = record {
    least = is.obeys.least;
    prio = is.obeys.prio;
    rows = is.obeys.rows;
    rel = is.obeys.rel;
    flows = is.obeys.flows;
    kflow = is.obeys.kflow;
    on_paths =
        is.obeys.on_paths;
  };
  dated = is.dated;
  plain = λ off. absurd (let wrong : false ≡ true = sym off ∙ on in cc);
}

-- a node is what it was after a reserve, but for its bound
pub readied_is : (x : Setting) (P : Kept → Type 0) (es : List Event) (w : World) (u : NodeId) (b n : NodeState) → KeysStand x es w → node_in w.nodes u ≡ Some b
    → Readied x w b n → NodeIs x P u b → NodeIs x P u n
readied_is x P es w u b n h at (As_was same) is = subst (NodeIs x P u) (sym same) is
readied_is x P es w u b n h at (Extended on short same) is =
    let me : b.fixed.me ≡ u = node_is w.nodes u b at in
    let more = reserve_more x es w u b h on at in
    let upto = next_bound x.total (numbers_at w.keys u) in
    let here : n ≡ extended b upto = same ∙ ap (λ (v : NodeId). extended b (next_bound x.total (numbers_at w.keys v))) me in
    subst (NodeIs x P u) (sym here) (extended_is x P u b upto on more.0 more.1 is)

-- ---- a node that acts has an index left, or all of its key are reserved

abbrev pub HasLeft : Signer → Type 0
HasLeft s = (s.bound ≡ s.total) ⊎ (s.index < s.bound)

long_enough : (s : Signer) → s.bound ≤ s.total → (nat_lt (s.bound - s.index) LEAST_LEFT && nat_lt s.bound s.total) ≡ false → HasLeft s
long_enough s most long = elim (cases_Bool (nat_lt s.bound s.total)) [
  | inl below ↦
      let few : nat_lt (s.bound - s.index) LEAST_LEFT ≡ false = left_false (nat_lt (s.bound - s.index) LEAST_LEFT) (rw below at long) in
      let least = ltb-false (s.bound - s.index) LEAST_LEFT few in
      inr (omega (arith, least))
  | inr whole ↦ let least = ltb-false s.bound s.total whole in inl (omega (arith, most, least))
]
  where
    left_false : (a : Bool) → (a && true) ≡ false → a ≡ false
    left_false true e = e
    left_false false e = refl

pub ready_left : (arts : Arts) (x : Setting) (P : Kept → Type 0) (es : List Event) (w : World) (e : Event) (n : NodeState) → KeysStand x es w
    → ((u : NodeId) (b : NodeState) → node_in w.nodes u ≡ Some b → NodeIs x P u b) → node_in (ready x w e).nodes (acting e) ≡ Some n → HasLeft n.signer
ready_left arts x P es w e n h nodes at = go x.epochs refl (node_in w.nodes (acting e)) refl at
  where
    short : (b : NodeState) → x.epochs ≡ true → node_in w.nodes (acting e) ≡ Some b → (t : Bool) → is_short b ≡ t
        → node_in (cond t (reserved x w b) w).nodes (acting e) ≡ Some n → HasLeft n.signer
    short b on here false enough is =
        let same : b ≡ n = same_Some b n (sym here ∙ is) in
        subst (λ (m : NodeState). HasLeft m.signer) same (long_enough b.signer (nodes (acting e) b here).holds.signer.bound enough)
    short b on here true few is =
        let me : b.fixed.me ≡ acting e = node_is w.nodes (acting e) b here in
        let upto = next_bound x.total (numbers_at w.keys b.fixed.me) in
        elim (node_put (acting e) b.fixed.me (extended b upto) n w.nodes refl is) [
          | inl it ↦
              let own = nodes (acting e) b here in
              let bound = ((h.files on).nodes (acting e) b here).bound in
              let mine = ap (λ (v : NodeId). (numbers_at w.keys v).bound) me in
              let low = own.holds.signer.index in
              let total = own.total in
              let below : b.signer.bound < b.signer.total =
              grind (arith, nat_tests, (right_true (nat_lt (b.signer.bound - b.signer.index) LEAST_LEFT) (nat_lt b.signer.bound b.signer.total) few)) in
              subst (λ (m : NodeState). HasLeft m.signer) (sym it.1) (inr (omega (arith, low, bound, mine, total, below)))
          | inr other ↦ absurd (other.0 (sym me))
        ]
      where
        right_true : (a c : Bool) → (a && c) ≡ true → c ≡ true
        right_true true c e = e
        right_true false c e = absurd (let f : false ≡ true = e in cc)

    go : (on : Bool) → x.epochs ≡ on → (found : Option NodeState) → node_in w.nodes (acting e) ≡ found
        → node_in (cond on (reserved_if x w found) w).nodes (acting e) ≡ Some n → HasLeft n.signer
    go false off found here is =
        let own = nodes (acting e) n is in
        inl ((own.plain off).whole ∙ sym own.total)
    go true on None here is = absurd (let none : None ≡ Some n = sym here ∙ is in cc)
    go true on (Some b) here is = short b on here (is_short b) refl is
