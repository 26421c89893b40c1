use Rattle.std.proofs.Common.{◌≡◌, ◌∙◌, Some, ap, slice_get, sym}
use Rattle.std.specs.Option.{option_copied}
use Rattle.sp_rules.specs.Store.{Store}
use Rattle.sp_rules.specs.declared.store.Entry.{Entry}
use Rattle.sp_store.proofs.IdLemmas.{oldest_by_id}
use Rattle.sp_store.proofs.store.Store.oldest.Goals as goal

pub returns-clause-entry : goal.returns-clause-entry
returns-clause-entry c =
    let s : Store = c.args.self.now in
    let e : Entry = c.in_ok-first.field-0.now in
    let first : Some e ≡ slice_get s.entries 0 =
    ap (λ r. option_copied r) (sym c.in_ok-first.was) ∙ c.nth.ensures ∙ ap (λ es. slice_get es 0) c.slots.ensures.entries
    ∙ ap (λ (t : Store). slice_get t.entries 0) c.self.view_is in
    c.remove.ensures.entry ∙ oldest_by_id s.entries e (sym first) ∙ first
