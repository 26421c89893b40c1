-- What each change of a flow at a node keeps, against what its source sent and what its destination delivered and acknowledged.
use Rattle.laws_runs.proofs.Acks.{over_less}
use Rattle.laws_node.proofs.Withdrawals.{same_ends_closed}
use Rattle.std.proofs.Common.{◌≡◌, ◌≤◌, ℕ, ◌+◌, ◌-◌, Bool, true, false, cond, List, [], ◌∷◌, ◌++◌, length, Some, refl, sym, ap, subst, ◌∙◌, inl, inr, arith}
use Rattle.std.proofs.Common.{append_assoc, ap₂, map}
use Rattle.std.specs.Prelude.{◌⊎◌, ◌||◌, slice_get, ◌&&◌, ◌==◌}
use Rattle.std.specs.List.{list_any}
use Rattle.std.proofs.lemmas.Bool.{cases_Bool, cases_eq, eq-eqb}
use Rattle.std.proofs.lemmas.List.{append-nil, length-append, length_push}
use Rattle.std.proofs.lemmas.Option.{slice_get_within}
use Rattle.sp_base.proofs.ListLemmas.{get_last, get_left}
use Rattle.sp_base.specs.Lists.{IsPrefix}
use Rattle.sp_base.specs.Rows.{first_where, replace_where}
use Rattle.sp_base.specs.declared.id.Flow.{Flow}
use Rattle.sp_base.specs.declared.id.NodeId.{NodeId}
use Rattle.sp_msg.specs.declared.kept.Kept.{Kept}
use Rattle.sp_rules.proofs.FlowJudged.{same_ends, found_ends}
use Rattle.sp_rules.specs.Flow.{FlowState, acknowledged_by, concluded, ends, is_flow, no_flow, number_said, pushed, received, ended}
use Rattle.sp_rules.specs.Rel.{RelState, flow_in, put_flow, with_flow, closed, ended_where, is_one_of, is_over}
use Rattle.sp_runs.specs.Told.{Message}
use Rattle.laws_runs.specs.Flows.{IsIn}
use Rattle.laws_runs.proofs.Lists.{front_more}
use Rattle.laws_runs.proofs.Tables.{same_node}

abbrev pub flow_of : NodeId → NodeId → Flow
flow_of s d = record { src = s; dst = d }

-- Where the flow from s to d stands at a correct node u, d correct. S was sent, D delivered, and the numbers up to c acknowledged.
-- What stands under C is so where s is correct, too.
pub record FlowAt (C : Type 0) (s d : NodeId) (S D : List Message) (c : ℕ) (u : NodeId) (f : FlowState) : Type 0 where
  pub base : f.at.base ≤ c
  pub base_end : u ≡ d → f.at.base ≡ c
  pub have_end : u ≡ d → f.at.have ≡ length D
  pub have : C → f.at.have ≤ length S
  pub have_source : C → u ≡ s → f.at.have ≡ length S

-- Who no end is. An ended flow stands as at such a node
abbrev pub seat : Bool → NodeId → NodeId → NodeId → NodeId
seat true s d u = record { 0 = s.0 + d.0 + 1 }
seat false s d u = u

pub seat_src : (t : Bool) (s d u : NodeId) → seat t s d u ≡ s → u ≡ s
seat_src false s d u e = e
seat_src true s d u e = absurd (let n : s.0 + d.0 + 1 ≡ s.0 = ap (λ (v : NodeId). v.0) e in omega (arith, n))

pub seat_dst : (t : Bool) (s d u : NodeId) → seat t s d u ≡ d → u ≡ d
seat_dst false s d u e = e
seat_dst true s d u e = absurd (let n : s.0 + d.0 + 1 ≡ d.0 = ap (λ (v : NodeId). v.0) e in omega (arith, n))

-- where the flow stands by what a table knows as removed
abbrev pub seat_in : NodeId → NodeId → NodeId → RelState → NodeId
seat_in s d u r = seat (is_over r.removed (flow_of s d)) s d u

pub record RelIs (C : Type 0) (s d : NodeId) (S D : List Message) (c : ℕ) (u : NodeId) (r : RelState) : Type 0 where
  pub me : r.me ≡ u
  pub row : list_any (is_flow (flow_of s d)) r.flows ≡ true
  pub flow : FlowAt C s d S D c (seat_in s d u r) (flow_in r.flows (flow_of s d))

-- a flow that hasn't ended stands as at its node
pub live : (C : Type 0) (s d : NodeId) (S D : List Message) (c : ℕ) (u : NodeId) (r : RelState) → is_over r.removed (flow_of s d) ≡ false
    → RelIs C s d S D c u r
    → FlowAt C s d S D c u (flow_in r.flows (flow_of s d))
live C s d S D c u r free h = subst (λ (t : Bool). FlowAt C s d S D c (seat t s d u) (flow_in r.flows (flow_of s d))) free h.flow

pub seated : (C : Type 0) (s d : NodeId) (S D : List Message) (c : ℕ) (u : NodeId) (r : RelState) (f : FlowState) → is_over r.removed (flow_of s d) ≡ false
    → FlowAt C s d S D c u f
    → FlowAt C s d S D c (seat_in s d u r) f
seated C s d S D c u r f free h = subst (λ (t : Bool). FlowAt C s d S D c (seat t s d u) f) (sym free) h

-- ---- rows

-- a row that was replaced is found
pub first_replaced : {X : Type 0} (p : X → Bool) (none y : X) (xs : List X) → p y ≡ true → list_any p xs ≡ true → first_where p none (replace_where p y xs) ≡ y
first_replaced p none y [] is some = absurd cc
first_replaced p none y (x ∷ xs) is some = elim (cases_Bool (p x)) [
  | inl t ↦ rw (t, is) refl
  | inr t ↦ rw (t, t) (first_replaced p none y xs is (rw t at some))
]

-- another row is found as before
pub other_replaced : {X : Type 0} (p q : X → Bool) (none y : X) (xs : List X) → ((x : X) → p x ≡ true → q x ≡ false) → q y ≡ false
    → first_where q none (replace_where p y xs) ≡ first_where q none xs
other_replaced p q none y [] apart e = refl
other_replaced p q none y (x ∷ xs) apart e = elim (cases_Bool (p x)) [
  | inl t ↦ rw (t, e, apart x t) refl
  | inr t ↦ rw t (ap (λ r. cond (q x) x r) (other_replaced p q none y xs apart e))
]

-- a test that passes the new row where it passed the old one
pub still_there : {X : Type 0} (p q : X → Bool) (y : X) (xs : List X) → ((x : X) → p x ≡ true → q x ≡ true → q y ≡ true) → list_any q xs ≡ true
    → list_any q (replace_where p y xs) ≡ true
still_there p q y [] same some = some
still_there p q y (x ∷ xs) same some = elim (cases_Bool (p x)) [
  | inl t ↦ elim (cases_Bool (q x)) [
    | inl z ↦ let here = same x t z in rw (t, here) refl
    | inr z ↦ rw t (or_right (q y) (list_any q xs) (rw z at some))
  ]
  | inr t ↦ elim (cases_Bool (q x)) [
    | inl z ↦ rw (t, z) refl
    | inr z ↦ rw (t, z) (still_there p q y xs same (rw z at some))
  ]
]
  where
    or_right : (a b : Bool) → b ≡ true → (a || b) ≡ true
    or_right true b is = refl
    or_right false b is = is

-- a flow passes for its own ends
pub is_its : (f : FlowState) (flow : Flow) → ends f ≡ flow → is_flow flow f ≡ true
is_its f flow e =
    let src : f.src.0 ≡ flow.src.0 = ap (λ (x : Flow). x.src.0) e in
    let dst : f.dst.0 ≡ flow.dst.0 = ap (λ (x : Flow). x.dst.0) e in
    rw (eq-eqb _ _ src, eq-eqb _ _ dst) refl

not_its : (f : FlowState) (flow : Flow) → (ends f ≡ flow → ⊥) → is_flow flow f ≡ false
not_its f flow never = elim (cases_Bool (is_flow flow f)) [ inl t ↦ absurd (never (same_ends f flow t)) | inr t ↦ t ]

pub cases_flow : (a b : Flow) → (a ≡ b) ⊎ (a ≡ b → ⊥)
cases_flow a b = elim (cases_eq a.src.0 b.src.0) [
  | inl x ↦ elim (cases_eq a.dst.0 b.dst.0) [
    | inl y ↦ inl (ap (λ (u : NodeId). flow_of u a.dst) (same_node a.src b.src x) ∙ ap (λ (u : NodeId). flow_of b.src u) (same_node a.dst b.dst y))
    | inr y ↦ inr (λ e. y (ap (λ (f : Flow). f.dst.0) e))
  ]
  | inr x ↦ inr (λ e. x (ap (λ (f : Flow). f.src.0) e))
]

-- one flow changed
pub with_flow_is : (C : Type 0) (s d : NodeId) (S D Sa Da : List Message) (c c2 : ℕ) (u : NodeId) (r : RelState) (flow : Flow) (g : FlowState) → ends g ≡ flow
    → RelIs C s d S D c u r
    → (flow ≡ flow_of s d → FlowAt C s d Sa Da c2 (seat_in s d u r) g)
    → ((flow ≡ flow_of s d → ⊥) → FlowAt C s d Sa Da c2 (seat_in s d u r) (flow_in r.flows (flow_of s d)))
    → RelIs C s d Sa Da c2 u (with_flow r flow g)
with_flow_is C s d S D Sa Da c c2 u r flow g same h mine others =
    let fl = flow_of s d in
    record {
      me = h.me;
      row = still_there (is_flow flow) (is_flow fl) g r.flows (λ f p q. is_its g fl (same ∙ sym (same_ends f flow p) ∙ same_ends f fl q)) h.row;
      flow = elim (cases_flow flow fl) [
        | inl e ↦
            let there : flow_in (put_flow r.flows flow g) fl ≡ g =
            ap (λ (x : Flow). flow_in (put_flow r.flows x g) fl) e ∙ first_replaced (is_flow fl) (no_flow fl) g r.flows (is_its g fl (same ∙ e)) h.row in
            subst (FlowAt C s d Sa Da c2 (seat_in s d u r)) (sym there) (mine e)
        | inr never ↦
            let there : flow_in (put_flow r.flows flow g) fl ≡ flow_in r.flows fl =
            other_replaced (is_flow flow) (is_flow fl) (no_flow fl) g r.flows (λ f p. not_its f fl (λ e. never (sym (same_ends f flow p) ∙ e)))
            (not_its g fl (λ e. never (sym same ∙ e))) in
            subst (FlowAt C s d Sa Da c2 (seat_in s d u r)) (sym there) (others never)
      ];
    }

-- nothing of the flows changed
pub same_rows_is : (C : Type 0) (s d : NodeId) (S D : List Message) (c : ℕ) (u : NodeId) (r r2 : RelState) → r2.me ≡ r.me → r2.flows ≡ r.flows
    → r2.removed ≡ r.removed → RelIs C s d S D c u r → RelIs C s d S D c u r2
same_rows_is C s d S D c u r r2 e f g h = record {
  me = e ∙ h.me;
  row = subst (λ fs. list_any (is_flow (flow_of s d)) fs ≡ true) (sym f) h.row;
  flow = subst (λ fs. FlowAt C s d S D c (seat_in s d u r2) (flow_in fs (flow_of s d))) (sym f)
      (subst (λ (us : List NodeId). FlowAt C s d S D c (seat (is_over us (flow_of s d)) s d u) (flow_in r.flows (flow_of s d))) (sym g) h.flow);
}

-- ---- each change, of the flow itself

-- more was sent, delivered or acknowledged elsewhere
pub flow_grown : (C : Type 0) (s d : NodeId) (S T D E : List Message) (c c2 : ℕ) (u : NodeId) (f : FlowState) → (u ≡ s → T ≡ []) → (u ≡ d → E ≡ []) → c ≤ c2
    → (u ≡ d → c2 ≡ c)
    → FlowAt C s d S D c u f → FlowAt C s d (S ++ T) (D ++ E) c2 u f
flow_grown C s d S T D E c c2 u f no_t no_e more same h = record {
  base = omega (arith, more, h.base);
  base_end = λ z. h.base_end z ∙ sym (same z);
  have_end = λ z. h.have_end z ∙ ap length (sym (append-nil D) ∙ ap (λ y. D ++ y) (sym (no_e z)));
  have = λ k. let old = h.have k in omega (arith, old, length-append S T);
  have_source = λ k z. h.have_source k z ∙ ap length (sym (append-nil S) ∙ ap (λ y. S ++ y) (sym (no_t z)));
}

-- the position is all that matters
pub same_at : (C : Type 0) (s d : NodeId) (S D : List Message) (c : ℕ) (u : NodeId) (f g : FlowState) → g.at ≡ f.at → FlowAt C s d S D c u f
    → FlowAt C s d S D c u g
same_at C s d S D c u f g e h =
    record { base = rw e h.base; base_end = rw e h.base_end; have_end = rw e h.have_end; have = rw e h.have; have_source = rw e h.have_source }

-- a client sent
pub flow_sent : (C : Type 0) (s d : NodeId) (S D : List Message) (c : ℕ) (f : FlowState) (o : Kept) (m : Message) → (s ≡ d → ⊥) → FlowAt C s d S D c s f
    → FlowAt C s d (S ++ m ∷ []) (D ++ []) c s (pushed f o)
flow_sent C s d S D c f o m different h = record {
  base = h.base;
  base_end = λ z. absurd (different z);
  have_end = λ z. absurd (different z);
  have = λ k. let old = h.have_source k refl in omega (arith, old, length_push S m);
  have_source = λ k z. let old = h.have_source k refl in omega (arith, old, length_push S m);
}

-- another node took the next message
pub flow_took : (C : Type 0) (s d : NodeId) (S D : List Message) (c : ℕ) (u : NodeId) (f : FlowState) (o : Kept) (p : List ℕ) → (u ≡ s → ⊥) → (u ≡ d → ⊥)
    → (C → IsIn S (f.at.have + 1) p)
    → FlowAt C s d S D c u f → FlowAt C s d S D c u (pushed f o)
flow_took C s d S D c u f o p not_s not_d next h = record {
  base = h.base;
  base_end = λ z. absurd (not_d z);
  have_end = λ z. absurd (not_d z);
  have = λ k. let within = slice_get_within S (f.at.have + 1 - 1) (f.at.have + 1, p) (next k).there in omega (arith, within);
  have_source = λ k z. absurd (not_s z);
}

-- the destination delivered it
pub flow_received : (C : Type 0) (s d : NodeId) (S D : List Message) (c : ℕ) (f : FlowState) (q : ℕ) (p : List ℕ) → (d ≡ s → ⊥) → (C → IsIn S (f.at.have + 1) p)
    → FlowAt C s d S D c d f → FlowAt C s d S (D ++ (q, p) ∷ []) c d (received f p)
flow_received C s d S D c f q p not_s next h = record {
  base = h.base;
  base_end = h.base_end;
  have_end = λ z. omega (arith, h.have_end refl, length_push D (q, p));
  have = λ k. let within = slice_get_within S (f.at.have + 1 - 1) (f.at.have + 1, p) (next k).there in omega (arith, within);
  have_source = λ k z. absurd (not_s z);
}

-- an acknowledgement came
pub flow_acked : (C : Type 0) (s d : NodeId) (S D : List Message) (c : ℕ) (u : NodeId) (f : FlowState) (o : Kept) → (u ≡ d → ⊥) → number_said o.body ≤ c
    → (C → c ≤ length S)
    → (u ≡ s → number_said o.body ≤ f.at.have) → FlowAt C s d S D c u f → FlowAt C s d S D c u (acknowledged_by f o)
flow_acked C s d S D c u f o not_d known few at_source h = record {
  base = omega (arith, h.base, known);
  base_end = λ z. absurd (not_d z);
  have_end = λ z. absurd (not_d z);
  have = λ k. let old = h.have k in let most = few k in omega (arith, old, most, known);
  have_source = λ k z. let old = h.have_source k z in let at = at_source z in omega (arith, old, at);
}

-- the destination signed one
pub flow_concluded : (C : Type 0) (s d : NodeId) (S D : List Message) (c c2 : ℕ) (f : FlowState) (o : Kept) → (d ≡ s → ⊥) → c ≤ length D → c2 ≡ f.at.have
    → FlowAt C s d S D c d f
    → FlowAt C s d S D c2 d (concluded f o)
flow_concluded C s d S D c c2 f o not_s low is h = record {
  base = let at = h.base_end refl in let have = h.have_end refl in omega (arith, at, have, low, is);
  base_end = λ z. let at = h.base_end refl in let have = h.have_end refl in omega (arith, at, have, low, is);
  have_end = λ z. let have = h.have_end refl in omega (arith, have);
  have = λ k. let old = h.have k in omega (arith, old);
  have_source = λ k z. absurd (not_s z);
}

-- the next delivery goes on with what was sent
pub delivered_next : (S D : List Message) (q : ℕ) (p : List ℕ) → IsPrefix D S → q ≡ length D + 1 → IsIn S q p → IsPrefix (D ++ (q, p) ∷ []) S
delivered_next S D q p h is there =
    let at : slice_get (D ++ h.0) (length D) ≡ Some (q, p) =
    let place : q - 1 ≡ length D = omega arith in
    ap (λ s. slice_get s (length D)) (sym h.1) ∙ ap (slice_get S) (sym place) ∙ there.there in
    let more = front_more D h.0 (q, p) at in
    (more.0, h.1 ∙ ap (λ r. D ++ r) more.1 ∙ sym (append_assoc D ((q, p) ∷ []) more.0))

pub prefix_length : (S D : List Message) → IsPrefix D S → length D ≤ length S
prefix_length S D h = rw h.1 (omega (arith, length-append D h.0))

pub in_last : (S : List Message) (q : ℕ) (p : List ℕ) → q ≡ length S + 1 → IsIn (S ++ (q, p) ∷ []) q p
in_last S q p is =
    let place : q - 1 ≡ length S = omega (arith, is) in
    record { number = omega (arith, is); there = ap (slice_get (S ++ (q, p) ∷ [])) place ∙ get_last S (q, p) }

pub in_more : (S T : List Message) (q : ℕ) (p : List ℕ) → IsIn S q p → IsIn (S ++ T) q p
in_more S T q p h = record { number = h.number; there = get_left S T (q - 1) (q, p) h.there }

-- ---- another version of the topology

-- a flow stands as at no end, too
pub to_nobody : (C : Type 0) (s d : NodeId) (S D : List Message) (c : ℕ) (w u : NodeId) (f : FlowState) → FlowAt C s d S D c w f
    → FlowAt C s d S D c (seat true s d u) f
to_nobody C s d S D c w u f h = record {
  base = h.base;
  base_end = λ z. absurd (let n : s.0 + d.0 + 1 ≡ d.0 = ap (λ (v : NodeId). v.0) z in omega (arith, n));
  have_end = λ z. absurd (let n : s.0 + d.0 + 1 ≡ d.0 = ap (λ (v : NodeId). v.0) z in omega (arith, n));
  have = h.have;
  have_source = λ k z. absurd (let n : s.0 + d.0 + 1 ≡ s.0 = ap (λ (v : NodeId). v.0) z in omega (arith, n));
}

-- and with nothing
pub flow_ended : (C : Type 0) (s d : NodeId) (S D : List Message) (c : ℕ) (u : NodeId) (f : FlowState) → FlowAt C s d S D c (seat true s d u) (ended f)
flow_ended C s d S D c u f = record {
  base = omega arith;
  base_end = λ z. absurd (let n : s.0 + d.0 + 1 ≡ d.0 = ap (λ (v : NodeId). v.0) z in omega (arith, n));
  have_end = λ z. absurd (let n : s.0 + d.0 + 1 ≡ d.0 = ap (λ (v : NodeId). v.0) z in omega (arith, n));
  have = λ k. omega arith;
  have_source = λ k z. absurd (let n : s.0 + d.0 + 1 ≡ s.0 = ap (λ (v : NodeId). v.0) z in omega (arith, n));
}

-- rows stay those of their flows
any_closed : (more : List NodeId) (fl : Flow) (fs : List FlowState) → list_any (is_flow fl) (map (ended_where more) fs) ≡ list_any (is_flow fl) fs
any_closed more fl [] = refl
any_closed more fl (f ∷ fs) =
    ap₂ (λ (a b : Bool). a || b) (ap (λ (g : Flow). (g.src.0 == fl.src.0) && (g.dst.0 == fl.dst.0)) (same_ends_closed more f)) (any_closed more fl fs)

in_closed : (more : List NodeId) (fl : Flow) (fs : List FlowState) → list_any (is_flow fl) fs ≡ true
    → flow_in (map (ended_where more) fs) fl ≡ ended_where more (flow_in fs fl)
in_closed more fl [] some = absurd (cc)
in_closed more fl (f ∷ fs) some = go (is_flow fl f) refl some (in_closed more fl fs)
  where
    same : is_flow fl (ended_where more f) ≡ is_flow fl f
    same = ap (λ (g : Flow). (g.src.0 == fl.src.0) && (g.dst.0 == fl.dst.0)) (same_ends_closed more f)

    go : (t : Bool) → is_flow fl f ≡ t → (t || list_any (is_flow fl) fs) ≡ true
        → (list_any (is_flow fl) fs ≡ true → flow_in (map (ended_where more) fs) fl ≡ ended_where more (flow_in fs fl))
        → cond (is_flow fl (ended_where more f)) (ended_where more f) (flow_in (map (ended_where more) fs) fl) ≡ ended_where more (cond t f (flow_in fs fl))
    go true is some rest = ap (λ (t : Bool). cond t (ended_where more f) (flow_in (map (ended_where more) fs) fl)) (same ∙ is)
    go false is some rest = ap (λ (t : Bool). cond t (ended_where more f) (flow_in (map (ended_where more) fs) fl)) (same ∙ is) ∙ rest some

-- a version that keeps removed nodes removed
pub closed_is : (C : Type 0) (s d : NodeId) (S D : List Message) (c : ℕ) (u : NodeId) (r : RelState) (more : List NodeId)
    → ((v : NodeId) → is_one_of r.removed v ≡ true → is_one_of more v ≡ true) → RelIs C s d S D c u r → RelIs C s d S D c u (closed r more)
closed_is C s d S D c u r more less h = record {
  me = h.me;
  row = any_closed more (flow_of s d) r.flows ∙ h.row;
  flow = subst (λ (g : FlowState). FlowAt C s d S D c (seat (is_over more (flow_of s d)) s d u) g) (sym (in_closed more (flow_of s d) r.flows h.row))
      (go (is_over more (flow_of s d)) refl);
}
  where
    f : FlowState
    f = flow_in r.flows (flow_of s d)

    over : is_over more (ends f) ≡ is_over more (flow_of s d)
    over = ap (is_over more) (found_ends r.flows (flow_of s d))

    go : (t : Bool) → is_over more (flow_of s d) ≡ t → FlowAt C s d S D c (seat t s d u) (ended_where more f)
    go true is = elim (cases_Bool f.active) [
      | inl on ↦ rw (on, over, is) (flow_ended C s d S D c u f)
      | inr off ↦ rw off (to_nobody C s d S D c (seat_in s d u r) u f h.flow)
    ]
    go false is = elim (cases_Bool f.active) [
      | inl on ↦ rw (on, over, is) (live C s d S D c u r (over_less r.removed more (flow_of s d) less is) h)
      | inr off ↦ rw off (live C s d S D c u r (over_less r.removed more (flow_of s d) less is) h)
    ]
