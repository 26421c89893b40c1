-- What an Epoch object makes of a flow between its ends, and of the boots that are held.
use Rattle.std.proofs.Common.{◌≡◌, ◌<◌, ℕ, Bool, true, false, cond, List, [], ◌∷◌, length, map, refl, sym, ap, subst, ◌∙◌, inl, inr, arith}
use Rattle.std.specs.Prelude.{◌||◌, ◌==◌, ◌⊎◌}
use Rattle.std.specs.List.{list_any}
use Rattle.std.proofs.lemmas.Bool.{cases_eq, eq-eqb, ne_eqb}
use Rattle.sp_base.specs.declared.id.Flow.{Flow}
use Rattle.sp_base.specs.declared.id.NodeId.{NodeId}
use Rattle.sp_msg.specs.declared.body.Body.{Body}
use Rattle.sp_msg.specs.declared.body.Body.TheVariants as bodies
use Rattle.sp_msg.specs.declared.kept.Kept.{Kept}
use Rattle.sp_rules.specs.Flow.{FlowState, ends, is_flow, no_flow}
use Rattle.sp_rules.specs.Handle.{met}
use Rattle.sp_rules.specs.Lives.{boot_said, held_boot, judge_epoch, origin_said}
use Rattle.sp_rules.specs.Parts.{Parts, flows_of}
use Rattle.sp_rules.specs.declared.kflow.FlowKind.{FlowKind}
use Rattle.sp_rules.specs.declared.kflow.FlowKind.TheVariants.{Plain, Paths}
use Rattle.sp_rules.specs.Rel.{RelState, flow_in, flow_less, is_end, restarted, is_over}
use Rattle.sp_rules.specs.declared.lives.EpochJudged.TheVariants as judged
use Rattle.sp_rules.specs.declared.lives.Life.{Life}
use Rattle.laws_node.specs.Epochs.{Follows}
use Rattle.sp_runs.specs.Told.{Message}
use Rattle.laws_runs.proofs.FlowFacts.{FlowAt, RelIs, flow_of, seat_dst, seat_in, seat_src}
use Rattle.laws_runs.proofs.FlowPieces.{Holding}
use Rattle.laws_runs.proofs.Tables.{same_node}

-- what is new says of the start of another node
pub of_other : (me : NodeId) (lives : List Life) (body : Body) → judge_epoch me lives body ≡ judged.New → origin_said body ≡ me → ⊥
of_other me lives (bodies.Epoch e) new is = let yes : (e.origin.0 == me.0) ≡ true = eq-eqb _ _ (ap (λ (v : NodeId). v.0) is) in
    let f : judged.BadEnd ≡ judged.New = rw yes at new in cc
of_other me lives (bodies.Prio b) new is = cc
of_other me lives (bodies.Rel b) new is = cc
of_other me lives (bodies.Ack b) new is = cc
of_other me lives (bodies.Weight b) new is = cc
of_other me lives (bodies.Krel b) new is = cc
of_other me lives (bodies.Kack b) new is = cc

-- ---- the flow after it

any_less : (v : NodeId) (flow : Flow) (fs : List FlowState) → list_any (is_flow flow) (map (flow_less v) fs) ≡ list_any (is_flow flow) fs
any_less v flow [] = refl
any_less v flow (f ∷ fs) = let e = same (is_end v (ends f)) in let rest = any_less v flow fs in rw (e, rest) refl
  where
    same : (t : Bool) → is_flow flow (cond t (no_flow (ends f)) f) ≡ is_flow flow f
    same true = refl
    same false = refl

end_at : (v s d : NodeId) → (v ≡ s) ⊎ (v ≡ d) → is_end v (flow_of s d) ≡ true
end_at v s d (inl is) = let z : (s.0 == v.0) ≡ true = eq-eqb _ _ (ap (λ (w : NodeId). w.0) (sym is)) in rw z refl
end_at v s d (inr is) = let z : (d.0 == v.0) ≡ true = eq-eqb _ _ (ap (λ (w : NodeId). w.0) (sym is)) in or_right (s.0 == v.0) (d.0 == v.0) z
  where
    or_right : (a b : Bool) → b ≡ true → (a || b) ≡ true
    or_right true b is = refl
    or_right false b is = is

no_end_at : (v s d : NodeId) → (v ≡ s → ⊥) → (v ≡ d → ⊥) → is_end v (flow_of s d) ≡ false
no_end_at v s d not_s not_d =
    let one : (s.0 == v.0) ≡ false = ne_eqb _ _ (λ z. not_s (same_node v s (sym z))) in
    let two : (d.0 == v.0) ≡ false = ne_eqb _ _ (λ z. not_d (same_node v d (sym z))) in
    rw (one, two) refl

-- Where it leads to: the boots that are held of both ends are the same, or one of them rose, and then the flow is as before its first message
pub data EndsUp (C : Type 0) (s d : NodeId) (bs bd : ℕ) (S D : List Message) (c : ℕ) (SF DF : ℕ → ℕ → List Message) (cF : ℕ → ℕ → ℕ) (u : NodeId)
    (lives : List Life) (r : RelState) : Type 0 where
  Same : held_boot lives s ≡ bs → held_boot lives d ≡ bd → RelIs C s d S D c u r → EndsUp C s d bs bd S D c SF DF cF u lives r
  New_source : (x : ℕ) → bs < x → held_boot lives s ≡ x → held_boot lives d ≡ bd → RelIs C s d (SF x bd) (DF x bd) (cF x bd) u r
      → EndsUp C s d bs bd S D c SF DF cF u lives r
  New_end : (y : ℕ) → bd < y → held_boot lives s ≡ bs → held_boot lives d ≡ y → RelIs C s d (SF bs y) (DF bs y) (cF bs y) u r
      → EndsUp C s d bs bd S D c SF DF cF u lives r

-- where another life of a node begins, its flows of each kind begin anew
met_flows : (kind : FlowKind) (p : Parts) (o : Kept) → flows_of kind (met p o) ≡ restarted (flows_of kind p) (origin_said o.body)
met_flows Plain p o = refl
met_flows Paths p o = refl

module _ (kind : FlowKind) (C : Type 0) (s d : NodeId) (bs bd : ℕ) (S D : List Message) (c : ℕ) (SF DF : ℕ → ℕ → List Message) (cF : ℕ → ℕ → ℕ) (u : NodeId)
    (different : s ≡ d → ⊥) (fresh_source : C → u ≡ s → (y : ℕ) → bd < y → SF bs y ≡ [])
    (fresh_end : u ≡ d → (x : ℕ) → bs < x → (DF x bd ≡ []) × (cF x bd ≡ 0)) where
  -- the flow as before its first message, for boots under which nothing was sent here or delivered here
  reset_is : (r : RelState) (v : NodeId) (S' D' : List Message) (c' : ℕ) → flow_in (restarted r v).flows (flow_of s d) ≡ no_flow (flow_of s d)
      → RelIs C s d S D c u r → (C → u ≡ s → S' ≡ []) → (u ≡ d → (D' ≡ []) × (c' ≡ 0)) → RelIs C s d S' D' c' u (restarted r v)
  reset_is r v S' D' c' there h no_s no_d = record {
    me = h.me;
    row = any_less v (flow_of s d) r.flows ∙ h.row;
    flow = subst (FlowAt C s d S' D' c' (seat_in s d u r)) (sym there) (record {
      base = omega arith;
      base_end = λ z. let no = no_d (seat_dst over s d u z) in sym no.1;
      have_end = λ z. let no = no_d (seat_dst over s d u z) in ap length (sym no.0);
      have = λ k. omega arith;
      have_source = λ k z. let no = no_s k (seat_src over s d u z) in ap length (sym no);
    });
  }
    where
      over : Bool
      over = is_over r.removed (flow_of s d)

  -- the flows of this kind begin anew
  renewed : (p : Parts) (o : Kept) → Holding s d bs bd p.lives → (origin_said o.body ≡ u → ⊥)
      → Follows (origin_said o.body) (boot_said o.body) p (met p o)
      → RelIs C s d S D c u (flows_of kind p) → EndsUp C s d bs bd S D c SF DF cF u (met p o).lives (restarted (flows_of kind p) (origin_said o.body))
  renewed p o holding other done h =
      let r = flows_of kind p in
      let v = origin_said o.body in
      let x = boot_said o.body in
      let not_v : (w : NodeId) → (w ≡ v → ⊥) → w.0 ≡ v.0 → ⊥ = λ w never same. never (same_node w v same) in
      let flow = ap (λ (x : RelState). flow_in x.flows (flow_of s d)) (sym (met_flows kind p o)) ∙ done.flows kind (flow_of s d) in
      let gone : (v ≡ s) ⊎ (v ≡ d) → flow_in (restarted r v).flows (flow_of s d) ≡ no_flow (flow_of s d) =
      λ end. flow ∙ ap (λ (t : Bool). cond t (no_flow (flow_of s d)) (flow_in r.flows (flow_of s d))) (end_at v s d end) in
      elim (cases_eq v.0 s.0) [
        | inl is ↦
            let vs : v ≡ s = same_node v s is in
            let up : held_boot p.lives s < x = subst (λ (w : NodeId). held_boot p.lives w < x) vs done.above in
            let rises : bs < x = let k = holding.src in omega (arith, up, k) in
            New_source x rises (subst (λ (w : NodeId). held_boot (met p o).lives w ≡ x) vs done.held)
            (done.others d (not_v d (λ z. different (sym vs ∙ sym z))) ∙ holding.dst)
            (reset_is r v (SF x bd) (DF x bd) (cF x bd) (gone (inl vs)) h (λ k z. absurd (other (vs ∙ sym z))) (λ z. fresh_end z x rises))
        | inr not_s ↦
            let stays = done.others s (λ same. not_s (sym same)) ∙ holding.src in
            elim (cases_eq v.0 d.0) [
              | inl is ↦
                  let vd : v ≡ d = same_node v d is in
                  let up : held_boot p.lives d < x = subst (λ (w : NodeId). held_boot p.lives w < x) vd done.above in
                  let rises : bd < x = let k = holding.dst in omega (arith, up, k) in
                  New_end x rises stays (subst (λ (w : NodeId). held_boot (met p o).lives w ≡ x) vd done.held)
                  (reset_is r v (SF bs x) (DF bs x) (cF bs x) (gone (inr vd)) h (λ k z. fresh_source k z x rises) (λ z. absurd (other (vd ∙ sym z))))
              | inr not_d ↦
                  let there = flow ∙ ap (λ (t : Bool). cond t (no_flow (flow_of s d)) (flow_in r.flows (flow_of s d)))
                  (no_end_at v s d (λ z. not_s (ap (λ (w : NodeId). w.0) z)) (λ z. not_d (ap (λ (w : NodeId). w.0) z))) in
                  Same stays (done.others d (λ same. not_d (sym same)) ∙ holding.dst)
                  (record {
                    me = h.me;
                    row = any_less v (flow_of s d) r.flows ∙ h.row;
                    flow =
                        subst (FlowAt C s d S D c (seat_in s d u r)) (sym there) h.flow;
                  })
            ]
      ]

  pub renewed_is : (p : Parts) (o : Kept) → Holding s d bs bd p.lives → (origin_said o.body ≡ u → ⊥)
      → Follows (origin_said o.body) (boot_said o.body) p (met p o)
      → RelIs C s d S D c u (flows_of kind p) → EndsUp C s d bs bd S D c SF DF cF u (met p o).lives (flows_of kind (met p o))
  renewed_is p o holding other done h =
      subst (EndsUp C s d bs bd S D c SF DF cF u (met p o).lives) (sym (met_flows kind p o)) (renewed p o holding other done h)
