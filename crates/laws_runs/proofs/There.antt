-- Each correct node is there in every state of a clean run.
use Rattle.std.proofs.Common.{◌≡◌, Bool, cond, true, false, eqb, List, [], ◌∷◌, filter, map, Some, refl, ap, ◌∙◌, inl, inr}
use Rattle.std.specs.List.{list_any}
use Rattle.std.proofs.lemmas.Bool.{cases_Bool, eqb-true}
use Rattle.sp_base.specs.declared.id.NodeId.{NodeId}
use Rattle.sp_rules.specs.Arts.{Arts}
use Rattle.sp_rules.specs.Node.{NodeState}
use Rattle.sp_rules.specs.Parts.{Fixed, nodes_of}
use Rattle.laws_runs.proofs.Lives.{step_stays}
use Rattle.sp_runs.specs.Runs.{Clean, Starts, Turned}
use Rattle.sp_runs.specs.Settings.{Setting, StaysUp, fixed_at, fixed_of, is_correct, is_one_of, node_at_boot}
use Rattle.sp_runs.specs.Worlds.{World, at_start, is_me, node_in}
use Rattle.sp_runs.specs.Inputs.{acting}
use Rattle.sp_journal.specs.declared.entry.Entry.{Entry}
use Rattle.sp_schedule_events.specs.declared.event.Event.{Event}
use Rattle.sp_msg.specs.declared.kept.Kept.{Kept}
use Rattle.laws_runs.specs.Signs.{Good, NodeIs}
use Rattle.laws_runs.specs.States.{CorrectNodesAreThere, OnlyCorrectNodesRun}
use Rattle.laws_runs.proofs.Lists.{both}
use Rattle.laws_runs.proofs.Plain.{Goes, Plain, Rests, plain_turn}
use Rattle.laws_runs.proofs.Running.{there_found, with_any}
use Rattle.laws_runs.proofs.Signed.{signs}
use Rattle.laws_runs.proofs.Tables.{node_is, same_node}

among_correct : (x : Setting) (u : NodeId) → is_correct x u ≡ true → (ns : List NodeId) → is_one_of ns u ≡ true
    → list_any (is_me u) (map (node_at_boot x) (filter (is_correct x) ns)) ≡ true
among_correct x u correct [] there = absurd (let e : false ≡ true = there in cc)
among_correct x u correct (v ∷ ns) there = elim (cases_Bool (eqb v.0 u.0)) [
  | inl t ↦ let same : v ≡ u = same_node v u (eqb-true _ _ t) in let is : is_correct x v ≡ true = ap (is_correct x) same ∙ correct in rw (is, t) refl
  | inr t ↦
      let rest = among_correct x u correct ns (rw t at there) in
      elim (cases_Bool (is_correct x v)) [ inl c ↦ rw (c, t, rest) refl | inr c ↦ rw (c, rest) refl ]
]

any_at_start : (x : Setting) (u : NodeId) → x.epochs ≡ false → is_correct x u ≡ true → list_any (is_me u) (at_start x).nodes ≡ true
any_at_start x u plain correct =
    ap (λ (on : Bool). list_any (is_me u) (cond on [] (map (node_at_boot x) (filter (is_correct x) (nodes_of x.topology))))) plain
    ∙ among_correct x u correct (nodes_of x.topology) (both _ _ correct).0

any_there : (arts : Arts) (x : Setting) (es : List Event) (js : List Entry) (w : World) → StaysUp arts x → Clean arts x es js w
    → (u : NodeId) → is_correct x u ≡ true → list_any (is_me u) w.nodes ≡ true
any_there arts x es js w fits Starts u correct = any_at_start x u fits.plain correct
any_there arts x es js w fits (Turned {es = es'} {js = js'} {old = old} {e = e} {j = j} run range turn unforged) u correct =
    after arts x es' js' old w e j u (any_there arts x es' js' old fits run u correct) (plain_turn arts x es' js' old w e j fits.plain turn unforged)
  where
    after : (arts : Arts) (x : Setting) (es : List Event) (js : List Entry) (old new : World) (e : Event) (j : Entry) (u : NodeId)
        → list_any (is_me u) old.nodes ≡ true
        → Plain arts x es js old e j new → list_any (is_me u) new.nodes ≡ true
    after arts x es js old new e j u before (Goes m none) =
        let fixed = (step_stays arts m.node m.input m.output m.after m.step).fixed in
        let me : m.after.fixed.me ≡ acting e = ap (λ (f : Fixed). f.me) fixed ∙ node_is old.nodes (acting e) m.node m.is_there in
        ap (λ (y : World). list_any (is_me u) y.nodes) m.world ∙ with_any u (acting e) m.after old.nodes me ∙ before
    after arts x es js old new e j u before (Rests s) = ap (λ (y : World). list_any (is_me u) y.nodes) s.world ∙ before

-- in a run without starts and stops each correct node is there
pub is_there : (arts : Arts) (x : Setting) (es : List Event) (js : List Entry) (w : World) → StaysUp arts x → Clean arts x es js w
    → (u : NodeId) → is_correct x u ≡ true → (n : NodeState) × (node_in w.nodes u ≡ Some n)
is_there arts x es js w fits run u correct = there_found u w.nodes (any_there arts x es js w fits run u correct)

pub only_correct_nodes_run : OnlyCorrectNodesRun
only_correct_nodes_run arts x es js w fits reads run u n at = let is = (signs arts x es js w fits reads run).nodes u n at in (is.correct, is.fixed)

-- without epochs each is in its first life
pub first_life : (x : Setting) (P : Kept → Type 0) (u : NodeId) (n : NodeState) → x.epochs ≡ false → NodeIs x P u n → n.fixed ≡ fixed_of x u
first_life x P u n plain is = is.fixed ∙ ap (fixed_at x u) (is.plain plain).first

pub correct_nodes_are_there : CorrectNodesAreThere
correct_nodes_are_there arts x es js w fits reads run = record {
  there = λ u correct. is_there arts x es js w fits run u correct;
  correct = λ u n at.
      let is = (signs arts x es js w fits.fits reads run).nodes u n at in
      (is.correct, first_life x (Good arts x es js) u n fits.plain is);
}
