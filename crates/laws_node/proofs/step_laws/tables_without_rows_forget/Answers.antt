use Rattle.std.proofs.Common.{List, length, refl, sym, ap, ◌∙◌, arith}
use Rattle.sp_base.specs.declared.id.Flow.{Flow}
use Rattle.sp_rules.specs.Prio.{PrioState}
use Rattle.laws_node.specs.Shapes.{RelShape}
use Rattle.laws_node.proofs.step_laws.tables_without_rows_forget.Goals as goal

pub returns : goal.returns
returns c = record {
  new = refl;
  told = refl;
  left = refl;
  prio_new = refl;
  prio_again = refl;
  not_kept = λ h. absurd (let wrong = ap (λ (fs : List Flow). length fs) h.keys in omega (arith, wrong));
  not_left = λ e. absurd (let wrong = ap (λ (x : RelShape). length x.flows) e in omega (arith, wrong));
  not_wider = λ e. absurd (let wrong = ap (λ (x : RelShape). x.bound) e in omega (arith, wrong));
  not_blind = λ n is same. absurd (let wrong = ap (λ (p : PrioState). length p.windows) (sym is) ∙ same in omega (arith, wrong));
}
