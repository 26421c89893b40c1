-- What each step of a node keeps of a flow between its ends, under the boots that the node holds of them.
use Rattle.std.proofs.Common.{◌≡◌, ◌≤◌, ℕ, ◌+◌, max, true, false, cond, eqb, List, [], ◌∷◌, ◌++◌, length, Option, Some, None, refl, sym, ap, subst}
use Rattle.std.proofs.Common.{◌∙◌, inl, inr, arith, append_assoc, ap₂}
use Rattle.std.specs.Prelude.{◌&&◌, ◌==◌, IsTrue}
use Rattle.std.specs.List.{flat_map}
use Rattle.std.specs.Option.{option_and_then, option_map}
use Rattle.std.proofs.lemmas.Bool.{cases_Bool, cases_eq, eq-eqb, ne_eqb}
use Rattle.std.proofs.lemmas.List.{append-nil}
use Rattle.std.proofs.lemmas.List.Concat.{flat_map-append}
use Rattle.sp_base.specs.Lists.{IsPrefix}
use Rattle.sp_base.specs.declared.id.Flow.{Flow}
use Rattle.sp_base.specs.declared.id.NodeId.{NodeId}
use Rattle.sp_msg.specs.Bodies.{payload_of}
use Rattle.sp_msg.specs.declared.body.Ack.{Ack}
use Rattle.sp_msg.specs.declared.body.Body.{Body}
use Rattle.sp_msg.specs.declared.effect.Effect.{Effect}
use Rattle.sp_msg.specs.declared.effect.Effect.TheVariants.{Signed}
use Rattle.sp_msg.specs.declared.kept.Kept.{Kept}
use Rattle.sp_rules.proofs.FlowJudged.{found_ends}
use Rattle.sp_rules.specs.Arts.{Arts}
use Rattle.sp_rules.specs.Flow.{after_take, boots_said, concluded, flow_said, number_said, pushed}
use Rattle.sp_rules.specs.Kflow.{ack_body}
use Rattle.sp_rules.specs.declared.kflow.FlowKind.{FlowKind}
use Rattle.sp_rules.specs.declared.kflow.FlowKind.TheVariants.{Plain, Paths}
use Rattle.sp_rules.specs.Lives.{held_boot}
use Rattle.sp_rules.specs.Rel.{RelState, ack_of, due, due_place, flow_at, flow_in, flow_to_me, pushed_in, served, served_at, next_place, settled}
use Rattle.sp_rules.specs.Rel.{settled_at, took, is_over}
use Rattle.sp_rules.specs.declared.lives.Life.{Life}
use Rattle.laws_node.proofs.Spellings.{no_other_is_spelled_so}
use Rattle.laws_node.specs.Flows.{IsRelOf}
use Rattle.laws_node.specs.Inputs.{ReadsBack}
use Rattle.laws_node.proofs.FlowKinds.{ack_said}
use Rattle.sp_runs.specs.Forgery.{is_among}
use Rattle.sp_runs.specs.Told.{Message, delivered_by, signed_by}
use Rattle.laws_runs.specs.Flows.{IsIn, AreNumbered}
use Rattle.laws_runs.proofs.FlowAcks.{NoneAcked, acked_away, acked_ever, acked_here, acked_one, acked_other, not_named, named, not_from}
use Rattle.laws_runs.proofs.FlowFacts.{FlowAt, RelIs, cases_flow, flow_concluded, flow_grown, flow_of, flow_sent, in_last, same_at, same_rows_is, with_flow_is}
use Rattle.laws_runs.proofs.FlowFacts.{live, seat_in, seated}
use Rattle.laws_runs.proofs.FlowPieces.{Holding, told_both, told_here}
use Rattle.laws_runs.proofs.Lists.{among_cons, among_or}
use Rattle.laws_runs.proofs.Tables.{same_node}
use Rattle.laws_runs.proofs.Foreign.{Foreign, acked_append, ever_append, rel_no_ack, ack_no_rel}

-- ---- the record of a step

-- a step at u, which holds these boots of both ends, says T of what was sent
pub record Stepped (kind : FlowKind) (arts : Arts) (C : Type 0) (s d : NodeId) (bs bd : ℕ) (S T D : List Message) (c : ℕ) (u : NodeId) (es : List Effect)
    (r : RelState) : Type 0 where
  pub rel : RelIs C s d (S ++ T) (D ++ told_here kind u s d es) (max c (acked_here kind arts bs bd u s d es)) u r
  pub prefix : C → IsPrefix (D ++ told_here kind u s d es) (S ++ T)
  pub low : max c (acked_here kind arts bs bd u s d es) ≤ length (D ++ told_here kind u s d es)
  pub no_t : (u ≡ s → ⊥) → T ≡ []
  pub numbers : C → AreNumbered (length S) T
  pub messages : C → u ≡ s → (m : Body) → IsRelOf kind m → IsTrue (arts.is_good m) → flow_said m ≡ flow_of s d
      → is_among (arts.spell m) (flat_map signed_by es) ≡ true → (boots_said m ≡ (bs, bd)) × IsIn (S ++ T) (number_said m) (payload_of m)
  -- under other boots nothing was acknowledged
  pub elsewhere : (x y : ℕ) → ((x ≡ bs) × (y ≡ bd) → ⊥) → acked_here kind arts x y u s d es ≡ 0
  pub ever : acked_ever kind arts u s d es ≡ acked_here kind arts bs bd u s d es

-- ---- a step of which nothing is told

module _ (kind : FlowKind) (arts : Arts) (reads : ReadsBack arts) (C : Type 0) (s d : NodeId) (bs bd : ℕ) (S D : List Message) (c : ℕ) (u : NodeId)
    (different : s ≡ d → ⊥) where
  pub silent : (es : List Effect) (r : RelState) → Foreign kind arts u s d es → RelIs C s d S D c u r → (C → IsPrefix D S) → c ≤ length D
      → Stepped kind arts C s d bs bd S [] D c u es r
  silent es r foreign h prefix low =
      let zeros = foreign.acks in
      let zero = zeros.under bs bd in
      let same_d : D ++ told_here kind u s d es ≡ D = ap (λ t. D ++ t) foreign.told ∙ append-nil D in
      let same_s : S ++ [] ≡ S = append-nil S in
      let same_c : max c (acked_here kind arts bs bd u s d es) ≡ c = omega (arith, zero) in
      record {
        rel = subst (λ n. RelIs C s d (S ++ []) (D ++ told_here kind u s d es) n u r) (sym same_c)
            (subst (λ X. RelIs C s d (S ++ []) X c u r) (sym same_d) (subst (λ X. RelIs C s d X D c u r) (sym same_s) h));
        prefix = subst (λ X. C → IsPrefix X (S ++ [])) (sym same_d) (subst (λ X. C → IsPrefix D X) (sym same_s) prefix);
        low = subst (λ (X : List Message). max c (acked_here kind arts bs bd u s d es) ≤ length X) (sym same_d) (omega (arith, zero, low));
        no_t = λ never. refl;
        numbers = λ y. tt;
        messages = λ k z m is good said among. absurd (foreign.signs m is good among);
        elsewhere = λ x y never. zeros.under x y;
        ever = let all = zeros.ever in omega (arith, all, zero);
      }

  -- what is told before and behind says nothing of it
  pub around : (T : List Message) (xs es ys : List Effect) (r : RelState) → Foreign kind arts u s d xs → Foreign kind arts u s d ys
      → Stepped kind arts C s d bs bd S T D c u es r → Stepped kind arts C s d bs bd S T D c u (xs ++ (es ++ ys)) r
  around T xs es ys r before behind h =
      let all = xs ++ (es ++ ys) in
      let told : told_here kind u s d all ≡ told_here kind u s d es =
      told_both kind u s d xs (es ++ ys) ∙ rw before.told (told_both kind u s d es ys ∙ rw behind.told (append-nil (told_here kind u s d es))) in
      let acked : (x y : ℕ) → acked_here kind arts x y u s d all ≡ acked_here kind arts x y u s d es =
      λ x y. (let a = before.acks.under x y in let b = behind.acks.under x y in let one = acked_append kind arts x y u s d xs (es ++ ys) in
      let two = acked_append kind arts x y u s d es ys in omega (arith, a, b, one, two)) in
      let ever : acked_ever kind arts u s d all ≡ acked_ever kind arts u s d es =
      let a = before.acks.ever in let b = behind.acks.ever in let one = ever_append kind arts u s d xs (es ++ ys) in
      let two = ever_append kind arts u s d es ys in omega (arith, a, b, one, two) in
      record {
        rel = subst (λ t. RelIs C s d (S ++ T) (D ++ t) (max c (acked_here kind arts bs bd u s d all)) u r) (sym told)
            (subst (λ k. RelIs C s d (S ++ T) (D ++ told_here kind u s d es) (max c k) u r) (sym (acked bs bd)) h.rel);
        prefix = subst (λ t. C → IsPrefix (D ++ t) (S ++ T)) (sym told) h.prefix;
        low = subst (λ (t : List Message). max c (acked_here kind arts bs bd u s d all) ≤ length (D ++ t)) (sym told)
            (subst (λ (k : ℕ). max c k ≤ length (D ++ told_here kind u s d es)) (sym (acked bs bd)) h.low);
        no_t = h.no_t;
        numbers = h.numbers;
        messages = λ k z m is good said among.
            elim (among_or (arts.spell m) (flat_map signed_by xs) (flat_map signed_by (es ++ ys)) (rw (flat_map-append signed_by xs (es ++ ys)) at among)) [
              | inl first ↦ absurd (before.signs m is good first)
              | inr rest ↦ elim (among_or (arts.spell m) (flat_map signed_by es) (flat_map signed_by ys) (rw (flat_map-append signed_by es ys) at rest)) [
                | inl here ↦ h.messages k z m is good said here
                | inr last ↦ absurd (behind.signs m is good last)
              ]
            ];
        elsewhere = λ x y never. acked x y ∙ h.elsewhere x y never;
        ever = ever ∙ h.ever ∙ sym (acked bs bd);
      }

  -- ---- a client's message

  pub sent_step : (lives : List Life) (r : RelState) (o : Kept) (dst : NodeId) → IsRelOf kind o.body → flow_said o.body ≡ flow_of u dst
      → number_said o.body ≡ (flow_in r.flows (flow_said o.body)).at.have + 1
      → boots_said o.body ≡ (held_boot lives u, held_boot lives dst) → is_over r.removed (flow_said o.body) ≡ false → IsTrue (arts.is_good o.body)
      → Holding s d bs bd lives → RelIs C s d S D c u r → (C → IsPrefix D S) → c ≤ length D
      → Stepped kind arts C s d bs bd S (cond (u.0 == s.0 && dst.0 == d.0) ((number_said o.body, payload_of o.body) ∷ []) []) D c u
      (Signed (arts.spell o.body) ∷ []) (pushed_in r o)
  sent_step lives r o dst is own number boots free good holding h prefix low =
      let body = o.body in
      let flow = flow_said body in
      let f = flow_in r.flows flow in
      let r2 = pushed_in r o in
      let m : Message = (number_said body, payload_of body) in
      let T = cond (u.0 == s.0 && dst.0 == d.0) (m ∷ []) [] in
      let es = Signed (arts.spell body) ∷ [] in
      let none : told_here kind u s d es ≡ [] = elim (cases_Bool (u.0 == d.0)) [ inl t ↦ rw t (unsaid kind) | inr t ↦ rw t refl ] in
      let zeros : NoneAcked kind arts u s d es = acked_other kind arts reads u s d es body good (rel_no_ack kind body is) refl in
      let zero = zeros.under bs bd in
      let same_d : D ++ told_here kind u s d es ≡ D ++ [] = ap (λ t. D ++ t) none in
      let same_c : max c (acked_here kind arts bs bd u s d es) ≡ c = omega (arith, zero) in
      let mine : flow ≡ flow_of s d → (u ≡ s) × (T ≡ m ∷ []) =
      λ e.
      let us : u ≡ s = ap (λ (x : Flow). x.src) (sym own ∙ e) in
      let dd : dst ≡ d = ap (λ (x : Flow). x.dst) (sym own ∙ e) in
      (us, rw (eq-eqb u.0 s.0 (ap (λ (v : NodeId). v.0) us), eq-eqb dst.0 d.0 (ap (λ (v : NodeId). v.0) dd)) refl) in
      let others : (flow ≡ flow_of s d → ⊥) → T ≡ [] =
      λ never. elim (cases_eq u.0 s.0) [
        | inl x ↦ rw (eq-eqb u.0 s.0 x, ne_eqb dst.0 d.0 (λ y. never (own ∙ ap (λ v. flow_of v dst) (same_node u s x) ∙ ap (flow_of s) (same_node dst d y))))
            refl
        | inr x ↦ rw (ne_eqb u.0 s.0 x) refl
      ] in
      let after = with_flow_is C s d S D (S ++ T) (D ++ []) c c u r flow (pushed f o) (found_ends r.flows flow) h
      (λ e.
      let to = mine e in
      let on : is_over r.removed (flow_of s d) ≡ false = subst (λ fl. is_over r.removed fl ≡ false) e free in
      let here : FlowAt C s d S D c s f =
      subst (λ v. FlowAt C s d S D c v f) to.0 (subst (λ fl. FlowAt C s d S D c u (flow_in r.flows fl)) (sym e) (live C s d S D c u r on h)) in
      seated C s d (S ++ T) (D ++ []) c u r (pushed f o) on (subst (λ X. FlowAt C s d (S ++ X) (D ++ []) c u (pushed f o)) (sym to.1)
      (subst (λ v. FlowAt C s d (S ++ m ∷ []) (D ++ []) c v (pushed f o)) (sym to.0) (flow_sent C s d S D c f o m different here))))
      (λ never. flow_grown C s d S T D [] c c (seat_in s d u r) (flow_in r.flows (flow_of s d)) (λ z. others never) (λ z. refl) (omega arith) (λ z. refl)
      h.flow) in
      record {
        rel = subst (λ q. RelIs C s d (S ++ T) (D ++ told_here kind u s d es) q u r2) (sym same_c)
            (subst (λ X. RelIs C s d (S ++ T) X c u r2) (sym same_d) after);
        prefix = subst (λ X. C → IsPrefix X (S ++ T)) (sym (same_d ∙ append-nil D))
            (λ y. ((prefix y).0 ++ T, ap (λ t. t ++ T) (prefix y).1 ∙ append_assoc D (prefix y).0 T));
        low = subst (λ (X : List Message). max c (acked_here kind arts bs bd u s d es) ≤ length X) (sym (same_d ∙ append-nil D)) (omega (arith, zero, low));
        no_t = λ never. rw (ne_eqb u.0 s.0 (λ e. never (same_node u s e))) refl;
        numbers = λ y. elim (cases_flow flow (flow_of s d)) [
          | inl e ↦
              let to = mine e in
              let on : is_over r.removed (flow_of s d) ≡ false = subst (λ fl. is_over r.removed fl ≡ false) e free in
              let have = (subst (λ fl. FlowAt C s d S D c u (flow_in r.flows fl)) (sym e) (live C s d S D c u r on h)).have_source y to.0 in
              subst (AreNumbered (length S)) (sym to.1) (omega (arith, number, have), tt)
          | inr never ↦ subst (AreNumbered (length S)) (sym (others never)) tt
        ];
        messages = λ y z w is_w good_w said among. elim (among_cons (arts.spell w) (arts.spell body) [] among) [
          | inl e ↦
              let same : body ≡ w = no_other_is_spelled_so arts reads body w good good_w e in
              let e2 : flow ≡ flow_of s d = ap flow_said same ∙ said in
              let to = mine e2 in
              let on : is_over r.removed (flow_of s d) ≡ false = subst (λ fl. is_over r.removed fl ≡ false) e2 free in
              let here : FlowAt C s d S D c u f = subst (λ fl. FlowAt C s d S D c u (flow_in r.flows fl)) (sym e2) (live C s d S D c u r on h) in
              let have : f.at.have ≡ length S = here.have_source y z in
              let dd : dst ≡ d = ap (λ (x : Flow). x.dst) (sym own ∙ e2) in
              let these : boots_said body ≡ (bs, bd) =
              boots ∙ ap₂ (λ (a b : ℕ). (a, b)) (ap (held_boot lives) to.0 ∙ holding.src) (ap (held_boot lives) dd ∙ holding.dst) in
              let there : IsIn (S ++ T) (number_said body) (payload_of body) =
              subst (λ X. IsIn (S ++ X) (number_said body) (payload_of body)) (sym to.1)
              (in_last S (number_said body) (payload_of body) (omega (arith, number, have))) in
              subst (λ (b : Body). (boots_said b ≡ (bs, bd)) × IsIn (S ++ T) (number_said b) (payload_of b)) same (these, there)
          | inr g ↦ absurd (let x : false ≡ true = g in cc)
        ];
        elsewhere = λ x y never. zeros.under x y;
        ever = let all = zeros.ever in omega (arith, all, zero);
      }
    where
      unsaid : (k : FlowKind) → flat_map (delivered_by k s) (Signed (arts.spell o.body) ∷ []) ≡ []
      unsaid Plain = refl
      unsaid Paths = refl

  -- ---- the destination's acknowledgement

  pub settled_step : (lives : List Life) (r : RelState) (raw ack : Ack) (o : Kept) → Holding s d bs bd lives → due r ≡ Some raw
      → ack ≡ record raw { sboot = held_boot lives raw.src; dboot = held_boot lives raw.dst } → o.body ≡ ack_body kind ack → ack.dst ≡ u
      → is_over r.removed (flow_said o.body) ≡ false → IsTrue (arts.is_good (ack_body kind ack))
      → RelIs C s d S D c u r → (C → IsPrefix D S) → c ≤ length D
      → Stepped kind arts C s d bs bd S [] D c u (Signed (arts.spell (ack_body kind ack)) ∷ []) (settled r o)
  settled_step lives r raw ack o holding is_due dated body mine free good h prefix low =
      let all = Signed (arts.spell (ack_body kind ack)) ∷ [] in
      let flow = flow_said o.body in
      let f = flow_in r.flows flow in
      let said : flow ≡ flow_of ack.src ack.dst = ap flow_said body ∙ ack_said kind ack in
      let none : told_here kind u s d all ≡ [] = elim (cases_Bool (u.0 == d.0)) [ inl t ↦ rw t (unsaid kind) | inr t ↦ rw t refl ] in
      let no_rel : (m : Body) → IsRelOf kind m → IsTrue (arts.is_good m) → is_among (arts.spell m) (flat_map signed_by all) ≡ true → ⊥ =
      λ m is good_m among. elim (among_cons (arts.spell m) (arts.spell (ack_body kind ack)) [] among) [
        | inl e ↦ ack_no_rel kind kind ack (subst (IsRelOf kind) (sym (no_other_is_spelled_so arts reads (ack_body kind ack) m good good_m e)) is)
        | inr g ↦ let x : false ≡ true = g in cc
      ] in
      let names : (ack.sboot ≡ held_boot lives ack.src) × (ack.dboot ≡ held_boot lives ack.dst) =
      subst (λ (a : Ack). (a.sboot ≡ held_boot lives a.src) × (a.dboot ≡ held_boot lives a.dst)) (sym dated) (refl, refl) in
      let seq : ack.seq ≡ (flow_in r.flows (flow_of ack.src ack.dst)).at.have =
      subst (λ (a : Ack). a.seq ≡ (flow_in r.flows (flow_of a.src a.dst)).at.have) (sym dated) (due_number r raw is_due) in
      elim (cases_flow flow (flow_of s d)) [
        | inl e ↦
            let on : is_over r.removed (flow_of s d) ≡ false = subst (λ fl. is_over r.removed fl ≡ false) e free in
            let both : flow_of ack.src ack.dst ≡ flow_of s d = sym said ∙ e in
            let src : ack.src ≡ s = ap (λ (x : Flow). x.src) both in
            let dst : ack.dst ≡ d = ap (λ (x : Flow). x.dst) both in
            let ud : u ≡ d = sym mine ∙ dst in
            let sb : ack.sboot ≡ bs = names.0 ∙ ap (held_boot lives) src ∙ holding.src in
            let db : ack.dboot ≡ bd = names.1 ∙ ap (held_boot lives) dst ∙ holding.dst in
            let this = named kind s d bs bd ack src dst sb db in
            let number : acked_here kind arts bs bd u s d all ≡ ack.seq =
            (acked_one kind arts reads bs bd u s d all (ack_body kind ack) good refl ud).0 ∙ this.0 in
            let ever : acked_ever kind arts u s d all ≡ ack.seq =
            (acked_one kind arts reads bs bd u s d all (ack_body kind ack) good refl ud).1 ∙ this.1 in
            let have : ack.seq ≡ f.at.have = seq ∙ ap (λ fl. (flow_in r.flows fl).at.have) (sym said) in
            let here : FlowAt C s d S D c d f =
            subst (λ v. FlowAt C s d S D c v f) ud (subst (λ fl. FlowAt C s d S D c u (flow_in r.flows fl)) (sym e) (live C s d S D c u r on h)) in
            let end = here.have_end refl in
            let c3 = max c (acked_here kind arts bs bd u s d all) in
            let c2 : c3 ≡ f.at.have = omega (arith, number, have, low, end) in
            let not_s : d ≡ s → ⊥ = λ z. different (sym z) in
            let at : FlowAt C s d S D c3 u (concluded f o) =
            subst (λ v. FlowAt C s d S D c3 v (concluded f o)) (sym ud) (flow_concluded C s d S D c c3 f o not_s low c2 here) in
            let done = after c3 (λ z. at) (λ never. absurd (never e)) in
            record {
              rel = subst (λ X. RelIs C s d (S ++ []) X c3 u (settled r o)) (sym (ap (λ t. D ++ t) none ∙ append-nil D))
                  (subst (λ X. RelIs C s d X D c3 u (settled r o)) (sym (append-nil S)) done);
              prefix = subst (λ X. C → IsPrefix X (S ++ [])) (sym (ap (λ t. D ++ t) none ∙ append-nil D))
                  (subst (λ X. C → IsPrefix D X) (sym (append-nil S)) prefix);
              low = subst (λ (X : List Message). c3 ≤ length X) (sym (ap (λ t. D ++ t) none ∙ append-nil D)) (omega (arith, c2, end));
              no_t = λ never. refl;
              numbers = λ y. tt;
              messages = λ y z m is good_m to among. absurd (no_rel m is good_m among);
              elsewhere = λ x y never. (acked_one kind arts reads x y u s d all (ack_body kind ack) good refl ud).0 ∙ not_named kind s d x y ack
                  (λ p q. never (sym p ∙ sb, sym q ∙ db));
              ever = ever ∙ sym number;
            }
        | inr never ↦
            let zeros : NoneAcked kind arts u s d all = elim (cases_eq u.0 d.0) [
              | inl z ↦
                  let ud = same_node u d z in
                  let not_src : eqb ack.src.0 s.0 ≡ false =
                  ne_eqb _ _ (λ x. never (said ∙ ap (λ v. flow_of v ack.dst) (same_node ack.src s x) ∙ ap (flow_of s) (mine ∙ ud))) in
                  record {
                    under = λ x y. (acked_one kind arts reads x y u s d all (ack_body kind ack) good refl ud).0 ∙ (not_from kind s d x y ack not_src).0;
                    ever = (acked_one kind arts reads 0 0 u s d all (ack_body kind ack) good refl ud).1 ∙ (not_from kind s d 0 0 ack not_src).1;
                  }
              | inr x ↦ acked_away kind arts u s d all (λ z. x (ap (λ (v : NodeId). v.0) z))
            ] in
            silent all (settled r o) (record { told = none; acks = zeros; signs = no_rel }) (after c (λ e. absurd (never e)) (λ z. h.flow)) prefix low
      ]
    where
      unsaid : (k : FlowKind) → flat_map (delivered_by k s) (Signed (arts.spell (ack_body kind ack)) ∷ []) ≡ []
      unsaid Plain = refl
      unsaid Paths = refl

      due_number : (r : RelState) (ack : Ack) → due r ≡ Some ack → ack.seq ≡ (flow_in r.flows (flow_of ack.src ack.dst)).at.have
      due_number r ack e = go (option_and_then (flow_at r.flows) (due_place r)) e
        where
          go : (o : Option Flow) → option_map (ack_of r) o ≡ Some ack → ack.seq ≡ (flow_in r.flows (flow_of ack.src ack.dst)).at.have
          go None e = absurd (cc)
          go (Some flow) e = let is : ack_of r flow ≡ ack = cc in subst (λ (a : Ack). a.seq ≡ (flow_in r.flows (flow_of a.src a.dst)).at.have) is refl

      after : (c2 : ℕ) → (flow_said o.body ≡ flow_of s d → FlowAt C s d S D c2 u (concluded (flow_in r.flows (flow_said o.body)) o))
          → ((flow_said o.body ≡ flow_of s d → ⊥) → FlowAt C s d S D c2 (seat_in s d u r) (flow_in r.flows (flow_of s d))) → RelIs C s d S D c2 u (settled r o)
      after c2 when other = go (due_place r) refl
        where
          go : (place : Option ℕ) → due_place r ≡ place → RelIs C s d S D c2 u (settled_at r o place)
          go None e = absurd (let f : None ≡ Some raw = rw e at is_due in cc)
          go (Some place) e = let x = with_flow_is C s d S D S D c c2 u r (flow_said o.body) (concluded (flow_in r.flows (flow_said o.body)) o)
              (found_ends r.flows (flow_said o.body)) h
              (λ e. seated C s d S D c2 u r (concluded (flow_in r.flows (flow_said o.body)) o) (subst (λ fl. is_over r.removed fl ≡ false) e free) (when e))
              other in
              record { me = x.me; row = x.row; flow = x.flow }

  -- ---- a client takes

  pub took_step : (r : RelState) (src : NodeId) → RelIs C s d S D c u r → RelIs C s d S D c u (took r src)
  took_step r src h =
      let flow = flow_to_me r src in
      let f = flow_in r.flows flow in
      with_flow_is C s d S D S D c c u r flow (after_take f) (found_ends r.flows flow) h
      (λ e. same_at C s d S D c (seat_in s d u r) f (after_take f) refl
      (subst (λ fl. FlowAt C s d S D c (seat_in s d u r) (flow_in r.flows fl)) (sym e) h.flow)) (λ never. h.flow)

  pub served_step : (r : RelState) (v : NodeId) → RelIs C s d S D c u r → RelIs C s d S D c u (served r v)
  served_step r v h = go (next_place r v)
    where
      go : (place : Option ℕ) → RelIs C s d S D c u (served_at r v place)
      go None = h
      go (Some place) = same_rows_is C s d S D c u r _ refl refl refl h
