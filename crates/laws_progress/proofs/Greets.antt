-- What a datagram of a neighbour meets at a node: where it tells of another life of that neighbour, nothing of what this one reported.
use Rattle.laws_progress.proofs.Heeded.{Ready}
use Rattle.sp_base.specs.Rows.{replace_where}
use Rattle.std.proofs.Common.{◌≡◌, ◌≤◌, ◌<◌, ℕ, ◌==◌, ◌&&◌, ◌||◌, Bool, true, false, cond, not, List, [], ◌∷◌, map, refl, sym, ap, ◌∙◌, inl, inr, arith}
use Rattle.std.proofs.Common.{ltb-false, ltb-true}
use Rattle.std.specs.Prelude.{nat_lt}
use Rattle.std.specs.List.{list_any}
use Rattle.std.proofs.lemmas.Bool.{cases_Bool, cases_lt, eq-eqb, eqb-true, ne_eqb}
use Rattle.sp_base.specs.declared.id.Flow.{Flow}
use Rattle.sp_base.specs.declared.id.NodeId.{NodeId}
use Rattle.sp_rules.specs.Arts.{Arts}
use Rattle.sp_rules.specs.Arrivals.{greeted, has_risen, link_after, parts_met}
use Rattle.sp_rules.specs.Node.{NodeState, link_in}
use Rattle.sp_rules.specs.Parts.{Parts}
use Rattle.sp_rules.specs.Rel.{RelPeer, RelState, View, is_peer, is_view, new_peer, no_view, no_views, peer_in, unheard, view_in, viewed}
use Rattle.sp_runs.specs.Settings.{Setting}
use Rattle.laws_node.specs.Shapes.{view_ends}
use Rattle.laws_node.proofs.Tables.{all_replace}
use Rattle.laws_runs.proofs.FlowFacts.{first_replaced}
use Rattle.laws_runs.proofs.Lists.{both}
use Rattle.laws_runs.proofs.NoStarts.{met_as_it_was}
use Rattle.laws_runs.proofs.Tables.{same_node}
use Rattle.laws_progress.proofs.Heads.{first_there}
use Rattle.laws_progress.proofs.Keys.{peer_is}
use Rattle.laws_progress.proofs.States.{Era, has_met, in_era, view_at}
use Rattle.laws_progress.proofs.Views.{RelRows, ViewsAre}
use Rattle.sp_rules.specs.Parts.{flows_of}
use Rattle.sp_rules.specs.declared.kflow.FlowKind.{FlowKind}
use Rattle.laws_progress.proofs.EitherKind.{greeted_either, unheard_flows}

none_viewed : (flow : Flow) (ws : List View) → view_in (map (λ w. no_view (viewed w)) ws) flow ≡ no_view flow
none_viewed flow [] = refl
none_viewed flow (w ∷ ws) = elim (cases_Bool (is_view flow w)) [
  | inl t ↦
      let ends_are = both _ _ t in
      let its : viewed w ≡ flow =
      ap (λ s. let g : Flow = record { src = s; dst = w.dst } in g) (same_node w.src flow.src (eqb-true _ _ ends_are.0))
      ∙ ap (λ d. let g : Flow = record { src = flow.src; dst = d } in g) (same_node w.dst flow.dst (eqb-true _ _ ends_are.1)) in
      rw t (ap no_view its)
  | inr t ↦ rw t (none_viewed flow ws)
]

unheard_view : (r : RelState) (u : NodeId) (flow : Flow) → list_any (is_peer u) r.peers ≡ true
    → view_in (peer_in (unheard r u).peers u).views flow ≡ no_view flow
unheard_view r u flow there =
    ap (λ (p : RelPeer). view_in p.views flow)
    (first_replaced (is_peer u) (new_peer [] u) (no_views (peer_in r.peers u)) r.peers (eq-eqb _ _ (ap (λ (n : NodeId). n.0) (peer_is r u))) there)
    ∙ none_viewed flow (peer_in r.peers u).views

-- what is seen of the neighbour doesn't change by that: where its boot rises, nothing was seen
module _ (arts : Arts) (x : Setting) (era : Era) (flow : Flow) (u v : NodeId) (n : NodeState) (bytes : List ℕ) (epochs_are : n.fixed.epochs ≡ x.epochs)
    (there : list_any (is_peer u) (flows_of era.kind n.parts).peers ≡ true) (rise : (link_in n u).peer_boot ≤ (link_after arts n u bytes).peer_boot)
    (top : (link_after arts n u bytes).peer_boot ≤ era.life u) where
  abbrev met_now : Bool
  met_now = not x.epochs || ((link_after arts n u bytes).peer_boot == era.life u)

  abbrev met_view : View
  met_view = view_in (peer_in (flows_of era.kind (parts_met arts n u bytes)).peers u).views flow

  pub greet_view : cond (in_era era flow v n && met_now) met_view (no_view flow) ≡ view_at x era flow v u n
  greet_view = elim (cases_Bool x.epochs) [
    | inr off ↦ rw off (ap (λ (p : Parts). cond (in_era era flow v n && true) (view_in (peer_in (flows_of era.kind p).peers u).views flow) (no_view flow))
        (met_as_it_was arts n u bytes (epochs_are ∙ off)))
    | inl on ↦ elim (cases_lt (link_in n u).peer_boot (link_after arts n u bytes).peer_boot) [
      | inl up ↦
          let before : ((link_in n u).peer_boot == era.life u) ≡ false = ne_eqb _ _ (λ same. omega (arith, same, up, top)) in
          let risen : has_risen (link_in n u) (link_after arts n u bytes) ≡ true = ltb_of (link_in n u).peer_boot (link_after arts n u bytes).peer_boot up in
          let emptied : met_view ≡ no_view flow =
          ap (λ t. view_in (peer_in (flows_of era.kind (greeted n.fixed.epochs t u n.parts)).peers u).views flow) risen
          ∙ ap (λ t. view_in (peer_in (flows_of era.kind (greeted t true u n.parts)).peers u).views flow) (epochs_are ∙ on)
          ∙ ap (λ (r : RelState). view_in (peer_in r.peers u).views flow) (unheard_flows era.kind u n.parts)
          ∙ unheard_view (flows_of era.kind n.parts) u flow there in
          let none : view_at x era flow v u n ≡ no_view flow = rw (on, before) (never (in_era era flow v n)) in
          ap (λ w. cond (in_era era flow v n && met_now) w (no_view flow)) emptied ∙ either_none (in_era era flow v n && met_now) ∙ sym none
      | inr low ↦
          let same : (link_after arts n u bytes).peer_boot ≡ (link_in n u).peer_boot = omega (arith, low, rise) in
          let risen : has_risen (link_in n u) (link_after arts n u bytes) ≡ false = ltb_off (link_in n u).peer_boot (link_after arts n u bytes).peer_boot low in
          ap (λ b. cond (in_era era flow v n && (not x.epochs || (b == era.life u))) met_view (no_view flow)) same
          ∙ ap (λ (p : Parts). cond (in_era era flow v n && has_met x era u n) (view_in (peer_in (flows_of era.kind p).peers u).views flow) (no_view flow))
          (ap (λ t. greeted n.fixed.epochs t u n.parts) risen ∙ stays n.fixed.epochs)
    ]
  ]
    where
      either_none : (t : Bool) → cond t (no_view flow) (no_view flow) ≡ no_view flow
      either_none true = refl
      either_none false = refl

      never : (t : Bool) → cond (t && false) (view_in (peer_in (flows_of era.kind n.parts).peers u).views flow) (no_view flow) ≡ no_view flow
      never true = refl
      never false = refl

      stays : (t : Bool) → greeted t false u n.parts ≡ n.parts
      stays true = refl
      stays false = refl

      ltb_of : (a b : ℕ) → a < b → nat_lt a b ≡ true
      ltb_of a b lt = elim (cases_Bool (nat_lt a b)) [ inl t ↦ t | inr t ↦ absurd (let ge = ltb-false a b t in omega (arith, ge, lt)) ]

      ltb_off : (a b : ℕ) → b ≤ a → nat_lt a b ≡ false
      ltb_off a b le = elim (cases_Bool (nat_lt a b)) [ inl t ↦ absurd (let lt = ltb-true a b t in omega (arith, le, lt)) | inr t ↦ t ]

-- the rows stay
same_ends_of : (ws : List View) → map view_ends (map (λ w. no_view (viewed w)) ws) ≡ map view_ends ws
same_ends_of [] = refl
same_ends_of (w ∷ ws) = ap (λ (es : List Flow). view_ends w ∷ es) (same_ends_of ws)

unheard_rows : (nodes : List NodeId) (u : NodeId) (r : RelState) → list_any (is_peer u) r.peers ≡ true → RelRows nodes r → RelRows nodes (unheard r u)
unheard_rows nodes u r there rows = record {
  nodes_are = rows.nodes_are;
  views = all_replace (ViewsAre nodes) (is_peer u) (no_views (peer_in r.peers u)) r.peers rows.views
      (same_ends_of (peer_in r.peers u).views ∙ first_there (ViewsAre nodes) (is_peer u) (new_peer [] u) r.peers rows.views there);
}

pub greeted_rows : (kind : FlowKind) (nodes : List NodeId) (epochs risen : Bool) (u : NodeId) (p : Parts)
    → list_any (is_peer u) (flows_of kind p).peers ≡ true → RelRows nodes (flows_of kind p) → RelRows nodes (flows_of kind (greeted epochs risen u p))
greeted_rows kind nodes epochs risen u p there rows =
    greeted_either (RelRows nodes) kind epochs risen u p (unheard_rows nodes u (flows_of kind p) there rows) rows

unheard_peer : (u : NodeId) (r : RelState) → list_any (is_peer u) r.peers ≡ true → list_any (is_peer u) (unheard r u).peers ≡ true
unheard_peer u r there = replaced_there r.peers there
  where
    replaced_there : (ps : List RelPeer) → list_any (is_peer u) ps ≡ true
        → list_any (is_peer u) (replace_where (is_peer u) (no_views (peer_in r.peers u)) ps) ≡ true
    replaced_there [] there = absurd (let f : false ≡ true = there in cc)
    replaced_there (q ∷ ps) there = elim (cases_Bool (is_peer u q)) [
      | inl t ↦ let its : is_peer u (no_views (peer_in r.peers u)) ≡ true = eq-eqb _ _ (ap (λ (n : NodeId). n.0) (peer_is r u)) in rw (t, its) refl
      | inr t ↦ rw (t, t) (replaced_there ps (rw t at there))
    ]

pub greeted_peer : (kind : FlowKind) (epochs risen : Bool) (u : NodeId) (p : Parts) → list_any (is_peer u) (flows_of kind p).peers ≡ true
    → list_any (is_peer u) (flows_of kind (greeted epochs risen u p)).peers ≡ true
greeted_peer kind epochs risen u p there =
    greeted_either (λ (r : RelState). list_any (is_peer u) r.peers ≡ true) kind epochs risen u p (unheard_peer u (flows_of kind p) there) there

-- and so does all that a flow's messages are judged by
pub greeted_ready : (kind : FlowKind) (nodes : List NodeId) (bound : ℕ) (v : NodeId) (flow : Flow) (epochs risen : Bool) (u : NodeId) (p : Parts)
    → Ready nodes bound v flow (flows_of kind p) → Ready nodes bound v flow (flows_of kind (greeted epochs risen u p))
greeted_ready kind nodes bound v flow epochs risen u p h = greeted_either (Ready nodes bound v flow) kind epochs risen u p (record {
  me = h.me;
  nodes_are = h.nodes_are;
  bound_is = h.bound_is;
  row = h.row;
  acks = h.acks;
  goes_on = h.goes_on;
}) h
