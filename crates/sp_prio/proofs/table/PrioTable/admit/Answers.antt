use Rattle.std.proofs.Common.{◌≡◌, ◌∙◌, ℕ, vec_capacity, sym, ap, subst}
use Rattle.sp_msg.specs.declared.kept.Kept.{Kept}
use Rattle.sp_rules.specs.Prio.{PrioState, places}
use Rattle.sp_prio.specs.Parcel.{AreBeside}
use Rattle.sp_prio.proofs.table.PrioTable.admit.Goals as goal

pub spread-requires-clause-beside : goal.spread-requires-clause-beside
spread-requires-clause-beside c =
    let made = c.into_parts-kept.result in
    let parts = c.into_parts-kept.ensures in
    let count : c.args.parcel.copies ≡ places c.mark.new.self made.0.body made.1 =
    c.requires.copies ∙ (λ i. places c.args.self.now (sym parts.kept i).body (sym parts.came i))
    ∙ sym (ap (λ (s : PrioState). places s made.0.body made.1) c.mark.ensures) in
    subst (λ (k : Kept). AreBeside k (places c.mark.new.self made.0.body made.1) made.2.items (vec_capacity made.2)) (sym parts.kept)
    (subst (λ (n : ℕ). AreBeside c.args.parcel.kept n made.2.items (vec_capacity made.2)) count parts.beside)
