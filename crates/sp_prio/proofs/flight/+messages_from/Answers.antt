use Rattle.std.proofs.Common.{ℕ, List, Bor, map, sym, ap, ◌∙◌}
use Rattle.std.specs.List.{flat_map}
use Rattle.std.specs.Option.{option_copied}
use Rattle.sp_base.proofs.FewLemmas.{drop_past}
use Rattle.sp_msg.specs.declared.kept.Kept.{Kept}
use Rattle.sp_rules.specs.Polls.{as_message}
use Rattle.sp_rules.specs.PrioPeer.{flown}
use Rattle.sp_prio.proofs.flight.+messages_from.Goals as goal

pub returns-in_default-clause-messages : goal.returns-in_default-clause-messages
returns-in_default-clause-messages t c =
    let past = drop_past c.args.pairs.now c.args.place (sym c.get.ensures.value ∙ ap option_copied c.in_default.is) in
    ap (λ (xs : List (ℕ × Bor Kept)). map (λ (p : ℕ × Bor Kept). (p.0, p.1.now)) xs) c.new.ensures
    ∙ sym (ap (λ (xs : List (ℕ × ℕ)). map as_message (flat_map (flown c.args.store.now) xs)) past)
