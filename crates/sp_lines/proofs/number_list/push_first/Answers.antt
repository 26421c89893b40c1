use Rattle.std.proofs.Common.{◌≡◌, List, ℕ, subst}
use Rattle.std.specs.Prelude.{OnOk, string_bytes}
use Rattle.sp_lines.proofs.NumbersLemmas.{first_written}
use Rattle.sp_lines.proofs.number_list.push_first.Goals as goal

pub returns : goal.returns
returns c =
    subst (λ (text : List ℕ). OnOk c.push_more.result (string_bytes c.push_more.new.out ≡ text))
    (first_written _ _ c.args.first c.args.more.now c.in_ok-push_field.ensures) c.push_more.ensures
