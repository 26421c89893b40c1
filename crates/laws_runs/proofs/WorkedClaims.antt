-- The worked claims: what each says of a small run, and what it refuses.
use Rattle.std.proofs.Common.{◌≡◌, ◌<◌, ◌≤◌, ℕ, zero, suc, ◌==◌, ◌&&◌, ◌||◌, Bool, true, false, not, cond, List, [], ◌∷◌, ◌++◌, map, Option, Some, None, refl}
use Rattle.std.proofs.Common.{sym, ap, subst, ◌∙◌, inl, inr, arith}
use Rattle.std.specs.Prelude.{◌⊎◌, IsTrue, if◌then◌else◌, slice_get, slice_index_or}
use Rattle.std.specs.List.{All, Contains}
use Rattle.std.proofs.lemmas.Bool.{eqb-true}
use Rattle.std.proofs.lemmas.List.Elements.{All-contains_itself, All-head, All-nil}
use Rattle.sp_base.specs.Formats.{max_nodes}
use Rattle.sp_base.specs.Reading.{number_at}
use Rattle.sp_base.specs.declared.format.TheConstants.{FORMAT_1}
use Rattle.sp_base.specs.declared.id.NodeId.{NodeId}
use Rattle.sp_base.specs.declared.limits.TheConstants.{MAX_NODES, MAX_NODES_2}
use Rattle.sp_topology.specs.declared.topology.Edge.{Edge}
use Rattle.sp_msg.specs.Bodies.{body_at_in, encoded, of_fields, read_body_in}
use Rattle.sp_msg.specs.Fields.{field_at}
use Rattle.sp_msg.specs.Views.{signer_of}
use Rattle.sp_msg.specs.declared.kept.Kept.{Kept}
use Rattle.sp_rules.specs.Flow.{no_flow}
use Rattle.sp_rules.specs.Node.{NodeState}
use Rattle.sp_rules.specs.Parts.{Fixed}
use Rattle.sp_rules.specs.Store.{ids}
use Rattle.sp_rules.specs.Weights.{effective}
use Rattle.laws_node.specs.Nodes.{sizes_of}
use Rattle.laws_node.specs.Sizes.{Fits}
use Rattle.laws_node.specs.Story.{node, toys}
use Rattle.laws_node.proofs.Reliable.{read}
use Rattle.laws_node.proofs.Tables.{all_get}
use Rattle.sp_runs.specs.Forgery.{is_among}
use Rattle.sp_runs.specs.Settings.{fixed_of, is_correct}
use Rattle.sp_runs.specs.Told.{Message, effects_at, signed}
use Rattle.sp_runs.specs.Weights.{effective_weight}
use Rattle.sp_runs.specs.Worlds.{World, at_start, node_in}
use Rattle.sp_journal.specs.declared.entry.Entry.{Entry}
use Rattle.sp_schedule_events.specs.declared.event.Event.{Event}
use Rattle.sp_rules.specs.declared.kflow.FlowKind.TheVariants.{Plain}
use Rattle.laws_runs.specs.Flows.{flow_at}
use Rattle.laws_runs.specs.Priority.{AreOnce}
use Rattle.laws_runs.specs.States.{NodeClaims, SignClaims, is_good_in}
use Rattle.laws_runs.specs.Story.{line, object, send}
use Rattle.laws_runs.specs.Weights.{EachHeld, IsSaid}
use Rattle.laws_runs.specs.WorkedClaims.{LivesAreWorked, NodesAreWorked, PriorityIsWorked, SignaturesAreWorked, WeightsAreWorked, believed, believer, boots}
use Rattle.laws_runs.specs.WorkedClaims.{flow, half, hearsay, hi, holds_it, holds_update, keeps, message, second, sends, signed_one, weighed}
use Rattle.laws_runs.proofs.Lists.{among_cons, both}
use Rattle.laws_runs.proofs.Tables.{same_node}
use Rattle.laws_node.specs.Story as stories

abbrev row_edge : ℕ → ℕ → Edge
row_edge low high = stories.edge low high

wrong : {A : Type 0} → false ≡ true → A
wrong e = absurd (let x : false ≡ true = e in cc)

-- ---- who is there

-- a compromised node has no state
none_there : (w : World) → NodeClaims half w → (o : Option NodeState) → node_in w.nodes (node 2) ≡ o → o ≡ None
none_there w h None at = refl
none_there w h (Some n) at = wrong (h.correct (node 2) n at).0

-- the state is that of the first, or of a later one
node_cases : (m : NodeState) (ms : List NodeState) (u : NodeId) (n : NodeState) → node_in (m ∷ ms) u ≡ Some n
    → ((m.fixed.me ≡ u) × (m ≡ n)) ⊎ (node_in ms u ≡ Some n)
node_cases m ms u n at = go (m.fixed.me.0 == u.0) refl
  where
    go : (b : Bool) → (m.fixed.me.0 == u.0) ≡ b → ((m.fixed.me ≡ u) × (m ≡ n)) ⊎ (node_in ms u ≡ Some n)
    go true e = inl (same_node _ _ (eqb-true _ _ e), let f : Some m ≡ Some n = rw e at at in cc)
    go false e = inr (rw e at at)

-- each correct node has its state at the start, and no other node has
nobody_else : (a c b : Bool) → a ≡ false → b ≡ false → ((a || (c || (b || false))) && not (c || false)) ≡ true → ⊥
nobody_else true c b e f correct = wrong (sym e)
nobody_else false c true e f correct = wrong (sym f)
nobody_else false true false e f correct = wrong correct
nobody_else false false false e f correct = wrong correct

start_there : (u : NodeId) → is_correct half u ≡ true → (n : NodeState) × (node_in (at_start half).nodes u ≡ Some n)
start_there u correct = go (1 == u.0) refl (3 == u.0) refl
  where
    go : (a : Bool) → (1 == u.0) ≡ a → (b : Bool) → (3 == u.0) ≡ b → (n : NodeState) × (node_in (at_start half).nodes u ≡ Some n)
    go true e b f = (boots 1, ap (λ (t : Bool). cond t (Some (boots 1)) (cond (3 == u.0) (Some (boots 3)) None)) e)
    go false e true f =
        (boots 3, ap (λ (t : Bool). cond t (Some (boots 1)) (cond (3 == u.0) (Some (boots 3)) None)) e ∙ ap (λ (t : Bool). cond t (Some (boots 3)) None) f)
    go false e false f = absurd (nobody_else (1 == u.0) (2 == u.0) (3 == u.0) e f correct)

start_is : (u : NodeId) (n : NodeState) → node_in (at_start half).nodes u ≡ Some n → IsTrue (is_correct half u) × (n.fixed ≡ fixed_of half u)
start_is u n at = elim (node_cases (boots 1) (boots 3 ∷ []) u n at) [
  | inl first ↦ it 1 refl first
  | inr later ↦ elim (node_cases (boots 3) [] u n later) [
    | inl second ↦ it 3 refl second
    | inr none ↦ absurd (let e : None ≡ Some n = none in cc)
  ]
]
  where
    it : (v : ℕ) → is_correct half (node v) ≡ true → (node v ≡ u) × (boots v ≡ n) → IsTrue (is_correct half u) × (n.fixed ≡ fixed_of half u)
    it v correct is = (ap (is_correct half) (sym is.0) ∙ correct, ap (λ (m : NodeState). m.fixed) (sym is.1) ∙ ap (fixed_of half) is.0)

pub nodes_are_worked : NodesAreWorked
nodes_are_worked = record {
  first = λ w h. h.there (node 1) refl;
  middle = λ w h. none_there w h (node_in w.nodes (node 2)) refl;
  start = record { there = start_there; correct = start_is };
  lacks = λ h. (let n = h.there (node 3) refl in let e : None ≡ Some n.0 = n.1 in absurd cc);
  invents = λ h. wrong (h.correct (node 2) (boots 2) refl).0;
  changes = λ h. (let e : 2 ≡ 1 = ap (λ (f : Fixed). f.boot) (h.correct (node 1) _ refl).1 in omega (arith, e));
}

-- ---- priority messages

-- one message stands once, and two of one number don't
one_once : (q : ℕ) → AreOnce (q ∷ [])
one_once q = λ i j d less inside. absurd (omega (arith, less, inside))

not_twice : (q : ℕ) → AreOnce (q ∷ q ∷ []) → ⊥
not_twice q once = once 0 1 q (omega arith) (omega arith) refl

-- what is delivered is the one message that was sent
sent_one : (m n : Message) → All (Contains (m ∷ [])) (n ∷ []) → m ≡ n
sent_one m n all = let it = All-head (Contains (m ∷ [])) n [] all in at it.0 it.1 it.2
  where
    at : (k : ℕ) → k < 1 → slice_index_or (m ∷ []) k n ≡ n → m ≡ n
    at zero inside is = is
    at (suc k) inside is = absurd (omega (arith, inside))

pub priority_is_worked : PriorityIsWorked
priority_is_worked = record {
  once = record { once = one_once 7; authentic = λ correct. All-contains_itself ((7, hi) ∷ []) };
  twice = λ h. not_twice 7 h.once;
  other_payload = λ h. (let e : hi ≡ [] = ap (λ (m : Message). m.1) (sent_one (7, hi) (7, []) (h.authentic refl)) in absurd cc);
  never_sent = λ h. (let e : ◌≡◌ {A = ℕ} 7 8 = ap (λ (m : Message). m.0) (sent_one (7, hi) (8, hi) (h.authentic refl)) in omega (arith, e));
  invented = record { once = one_once 8; authentic = λ correct. wrong correct };
  invented_twice = λ h. not_twice 8 h.once;
}

-- ---- weights

-- 3 alone is there, and its weights are those that it told
believed_is : (u : NodeId) (n : NodeState) (edge : ℕ) (e : Edge) → node_in believed.nodes u ≡ Some n → slice_get (line []).topology.edges edge ≡ Some e
    → effective n.parts.weights edge ≡ effective_weight hearsay holds_it u edge (slice_index_or n.live.weights edge 0) e
believed_is u n edge e at there = elim (node_cases believer [] u n at) [
  | inl is ↦ subst (λ (v : NodeId). effective n.parts.weights edge ≡ effective_weight hearsay holds_it v edge (slice_index_or n.live.weights edge 0) e) is.0
      (subst (λ (m : NodeState). effective m.parts.weights edge ≡ effective_weight hearsay holds_it (node 3) edge (slice_index_or m.live.weights edge 0) e) is.1
      (of_edge edge e there))
  | inr none ↦ absurd (let f : None ≡ Some n = none in cc)
]
  where
    of_edge : (edge : ℕ) (e : Edge) → slice_get (line []).topology.edges edge ≡ Some e → effective believer.parts.weights edge
        ≡ effective_weight hearsay holds_it (node 3) edge (slice_index_or believer.live.weights edge 0) e
    of_edge zero e there = let same : row_edge 1 2 ≡ e = cc in
        subst (λ (f : Edge). effective believer.parts.weights 0 ≡ effective_weight hearsay holds_it (node 3) 0 (slice_index_or believer.live.weights 0 0) f)
        same refl
    of_edge (suc zero) e there = let same : row_edge 2 3 ≡ e = cc in
        subst (λ (f : Edge). effective believer.parts.weights 1 ≡ effective_weight hearsay holds_it (node 3) 1 (slice_index_or believer.live.weights 1 0) f)
        same refl
    of_edge (suc (suc edge)) e there = absurd cc

-- a compromised node's update needn't be signed in the run
believed_said : (u : NodeId) → EachHeld (IsSaid toys (line (node 1 ∷ [])) hearsay holds_it) (effects_at hearsay holds_it u)
believed_said u = go (3 == u.0)
  where
    go : (b : Bool) → EachHeld (IsSaid toys (line (node 1 ∷ [])) hearsay holds_it) (cond b (holds_update ∷ []) [] ++ [])
    go true = (wrong, tt)
    go false = tt

pub weights_are_worked : WeightsAreWorked
unfolding ids read_body_in body_at_in number_at of_fields field_at
weights_are_worked = record {
  all_of_it = refl;
  says = λ w n h at live.
      h.effective_is (node 1) n 0 _ at refl
      ∙ ap (λ (ws : List ℕ). effective_weight weighed.events weighed.journal (node 1) 0 (slice_index_or ws 0 0) (row_edge 1 2)) live;
  is_so = refl;
  minimum = λ h. (let e : ◌≡◌ {A = ℕ} 10 20 = h.effective_is (node 1) _ 0 _ refl refl in omega (arith, e));
  greatest = λ h. (let e : ◌≡◌ {A = ℕ} 30 20 = h.effective_is (node 1) _ 0 _ refl refl in omega (arith, e));
  never_said = λ h. wrong ((h.said (node 3)).0 refl);
  invented = record { effective_is = believed_is; said = believed_said };
}

-- ---- what is signed

-- a message that stands in the first place of the list of the flow from 1 to 3 at 2 is good
kept_good : (es : List Event) (js : List Entry) (o : Kept) → SignClaims toys (line []) es js (keeps o) → IsTrue (is_good_in toys (line []) es js o)
kept_good es js o h =
    let holds = (h.kept (node 2) _ refl).parts.rel.flows in
    let row = holds 1 (no_flow flow) (let i : 1 < 6 = omega arith in i) in
    (row.messages 0 o (let i : 0 < 1 = omega arith in i)).holds

-- and so is the first that a frame has
sent_good : (es : List Event) (js : List Entry) → SignClaims toys (line []) es js (sends (message (1 ∷ [])))
    → IsTrue (is_good_in toys (line []) es js (message (1 ∷ [])))
sent_good es js h = h.sent (node 2) (node 3) 0 _ _ refl refl 0 (message (1 ∷ [])) (let i : 0 < 1 = omega arith in i)

-- each format has room for sixteen nodes
sixteen_at_least : (format : ℕ) → 16 ≤ max_nodes format
sixteen_at_least format = go (format == FORMAT_1)
  where
    go : (b : Bool) → 16 ≤ (if b then MAX_NODES else MAX_NODES_2)
    go true = omega arith
    go false = omega arith

says : (w : World) (u : NodeId) (n : NodeState) (k : ℕ) (o : Kept) → SignClaims toys (line []) (send ∷ []) signed_one w → node_in w.nodes u ≡ Some n
    → slice_get (flow_at Plain n (node 1) (node 3)).at.list k ≡ Some o → signer_of o.body ≡ node 1 → encoded o.body ≡ object
says w u n k o h at there signer =
    let sizes = sizes_of (λ o. IsTrue (is_good_in toys (line []) (send ∷ []) signed_one o)) n in
    let wide = sixteen_at_least sizes.format in
    let row = read Plain sizes n.signer.index n.parts.rel.flows flow (omega arith, omega (arith, wide)) (omega arith, omega (arith, wide))
    (h.kept u n at).parts.rel.flows in
    let good = both _ _ (all_get (Fits sizes) (flow_at Plain n (node 1) (node 3)).at.list k o row.messages there).holds in
    let known : is_among (encoded o.body) (object ∷ []) ≡ true =
    subst (λ (v : NodeId). (not (is_correct (line []) v) || is_among (encoded o.body) (signed (send ∷ []) signed_one v)) ≡ true) signer good.1 in
    elim (among_cons (encoded o.body) object [] known) [ inl same ↦ sym same | inr none ↦ wrong none ]

pub signatures_are_worked : SignaturesAreWorked
unfolding ids read_body_in body_at_in number_at of_fields field_at
signatures_are_worked = record {
  says = says;
  is_good = refl;
  other_signature = λ h. wrong (kept_good (send ∷ []) signed_one (message (2 ∷ [])) h);
  never_signed = λ h. wrong (kept_good [] [] (message (1 ∷ [])) h);
  sent_unsigned = λ h. wrong (sent_good [] [] h);
}

-- ---- lives

-- three numbers rise
three_rise : {X : Type 0} (f : X → ℕ) (a b c : X) → f a < f b → f b < f c → (i j : ℕ) (d : X) → i < j → j < 3
    → f (slice_index_or (a ∷ b ∷ c ∷ []) i d) < f (slice_index_or (a ∷ b ∷ c ∷ []) j d)
three_rise f a b c one two zero (suc zero) d low within = one
three_rise f a b c one two zero (suc (suc zero)) d low within = omega (arith, one, two)
three_rise f a b c one two (suc zero) (suc (suc zero)) d low within = two
three_rise f a b c one two i zero d low within = absurd (omega (arith, low))
three_rise f a b c one two (suc i) (suc zero) d low within = absurd (omega (arith, low))
three_rise f a b c one two (suc (suc i)) (suc (suc zero)) d low within = absurd (omega (arith, low))
three_rise f a b c one two i (suc (suc (suc j))) d low within = absurd (omega (arith, within))

two_rise : (a b : ℕ) → a < b → (i j d : ℕ) → i < j → j < 2 → slice_index_or (a ∷ b ∷ []) i d < slice_index_or (a ∷ b ∷ []) j d
two_rise a b up zero (suc zero) d low within = up
two_rise a b up i zero d low within = absurd (omega (arith, low))
two_rise a b up (suc i) (suc zero) d low within = absurd (omega (arith, low))
two_rise a b up i (suc (suc j)) d low within = absurd (omega (arith, within))

-- what is told under two boots, where their tests say this
abbrev number_once : Bool → List Message
number_once t = cond t ((7, hi) ∷ []) []

abbrev none_told : Bool → List Message
none_told t = cond t [] []

none_once : AreOnce []
none_once = λ i j d less inside. absurd (omega (arith, inside))

once_across : (t : Bool) → AreOnce (map (λ m. m.0) (none_told t ++ (number_once t ++ [])))
once_across true = one_once 7
once_across false = none_once

sent_across : (t u : Bool) → All (Contains (number_once t ++ (none_told t ++ []))) (none_told (t && u) ++ (number_once (t && u) ++ []))
sent_across true true = All-contains_itself ((7, hi) ∷ [])
sent_across true false = All-nil (Contains ((7, hi) ∷ []))
sent_across false u = All-nil (Contains [])

-- and where it comes in two lives of 3
no_two : (b : ℕ) → (1 == b) ≡ true → (2 == b) ≡ true → ⊥
no_two b e f = let one = eqb-true 1 b e in let two = eqb-true 2 b f in omega (arith, one, two)

once_in_each : (t u v : Bool) → (u ≡ true → v ≡ true → ⊥)
    → AreOnce (map (λ m. m.0) (none_told (t && u) ++ (number_once (t && u) ++ (number_once (t && v) ++ []))))
once_in_each true true true apart = absurd (apart refl refl)
once_in_each true true false apart = one_once 7
once_in_each true false true apart = one_once 7
once_in_each true false false apart = none_once
once_in_each false u v apart = none_once

sent_in_each : (t u v : Bool) → (u ≡ true → v ≡ true → ⊥)
    → All (Contains (number_once t ++ (none_told t ++ (none_told t ++ [])))) (none_told (t && u) ++ (number_once (t && u) ++ (number_once (t && v) ++ [])))
sent_in_each true true true apart = absurd (apart refl refl)
sent_in_each true true false apart = All-contains_itself ((7, hi) ∷ [])
sent_in_each true false true apart = All-contains_itself ((7, hi) ∷ [])
sent_in_each true false false apart = All-nil (Contains ((7, hi) ∷ []))
sent_in_each false u v apart = All-nil (Contains [])

pub lives_are_worked : LivesAreWorked
unfolding ids read_body_in body_at_in number_at of_fields field_at
lives_are_worked = record {
  later = record {
    indexes = three_rise (λ (s : ℕ × List ℕ). s.0) _ _ _ (omega arith) (omega arith);
    boots = two_rise 1 2 (omega arith);
  };
  first_again = λ h. absurd (let e : 0 < 0 = h.indexes 0 2 (0, []) (omega arith) (omega arith) in omega (arith, e));
  last_again = λ h. absurd (let e : 1 < 1 = h.indexes 1 2 (0, []) (omega arith) (omega arith) in omega (arith, e));
  same_boot = λ h. absurd (let e : 1 < 1 = h.boots 0 1 0 (omega arith) (omega arith) in omega (arith, e));
  alone = refl;
  alone_later = refl;
  next_held = refl;
  with_word = refl;
  with_word_later = refl;
  is_kept = record { once = λ a b. once_across ((1 == a) && (1 == b)); authentic = λ correct a b. sent_across (1 == a) (1 == b) };
  sent_later = λ h. (let it = All-head (Contains []) (7, hi) [] (h.authentic refl 1 1) in let inside = it.1 in omega (arith, inside));
  twice = λ h. not_twice 7 (h.once 1 1);
  other_life = record {
    once = λ a b. once_in_each (1 == a) (1 == b) (2 == b) (no_two b);
    authentic = λ correct a b. sent_in_each (1 == a) (1 == b) (2 == b) (no_two b);
  };
}
