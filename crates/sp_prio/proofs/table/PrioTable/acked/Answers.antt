use Rattle.std.proofs.Common.{◌≡◌, None, ap, sym, ◌∙◌}
use Rattle.std.specs.Prelude.{position}
use Rattle.sp_base.proofs.RowLemmas.{first_where-no_position}
use Rattle.sp_rules.specs.Prio.{is_peer, no_peer}
use Rattle.sp_rules.specs.PrioPeer as rows
use Rattle.sp_rules.specs.PrioPeer.{PrioPeer}
use Rattle.sp_rules.specs.Told.{told}
use Rattle.sp_prio.proofs.RowLemmas.{nothing_acked}
use Rattle.sp_rules.proofs.ToldLemmas.{told_none}
use Rattle.sp_prio.proofs.table.PrioTable.acked.Goals as goal

pub returns-in_default-clause-told : goal.returns-in_default-clause-told
returns-in_default-clause-told c =
    let none : position (is_peer c.args.v.0) c.self.inside.peers.items ≡ None = ap (position (is_peer c.args.v.0)) (sym c.deref.ensures.value)
    ∙ sym c.place_of.ensures.place ∙ c.in_default.is in
    rw (← c.self.view_is)
    (sym (ap (λ (q : PrioPeer). told c.args.out.now (rows.acked_effects q c.args.number))
    (first_where-no_position (is_peer c.args.v.0) no_peer c.self.inside.peers.items none)
    ∙ ap (told c.args.out.now) (nothing_acked c.args.number) ∙ told_none c.args.out.now))
