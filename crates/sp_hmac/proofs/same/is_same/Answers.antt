use Rattle.std.proofs.Common.{◌≡◌, ◌↔◌, rules, sym, ◌∙◌}
use Rattle.std.proofs.Math.Facts.{eqb_yes, yes_eqb}
use Rattle.sp_hmac.proofs.Differences.{same_where_none}
use Rattle.sp_hmac.proofs.same.is_same.Goals as goal

pub returns : goal.returns
returns c =
    let law : (c.difference.result ≡ 0) ↔ (c.args.tag.now ≡ c.args.expected.now) =
    same_where_none c.args.tag.now c.args.expected.now c.difference.result c.difference.ensures (search rules) (search rules) in
    (λ none. law.0 (search (rules, none)), λ same. search (rules, law.1 same))
