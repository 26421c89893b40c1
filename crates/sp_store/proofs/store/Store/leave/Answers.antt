use Rattle.std.proofs.Common.{◌≡◌, ◌∙◌, List, None, Some, ap, find, subst, sym}
use Rattle.std.specs.Option.{option_copied}
use Rattle.sp_rules.specs.Store.{Store}
use Rattle.sp_store.specs.Leaving.{leaves}
use Rattle.sp_rules.specs.declared.store.Entry.{Entry}
use Rattle.sp_store.proofs.LeftLemmas.{none_left}
use Rattle.sp_store.proofs.IdLemmas.{first_by_id}
use Rattle.sp_store.specs.Places.{Rises}
use Rattle.sp_store.proofs.store.Store.leave.Goals as goal

abbrev with_entries : Store → List Entry → Store
with_entries s es = record { capacity = s.capacity; last = s.last; entries = es }

pub returns-in_err-gone-clause-store : goal.returns-in_err-gone-clause-store
returns-in_err-gone-clause-store c =
    let s : Store = c.args.self.now in
    let none : None ≡ find (leaves c.args.leaving.now) s.entries =
    ap (λ r. option_copied r) (sym c.in_err-gone.was) ∙ c.first_of.ensures ∙ ap (find (leaves c.args.leaving.now)) c.slots.ensures.entries
    ∙ ap (λ (t : Store). find (leaves c.args.leaving.now) t.entries) c.self.view_is in
    ap (with_entries s) (sym (none_left (leaves c.args.leaving.now) s.entries (sym none)))

pub returns-clause-entry : goal.returns-clause-entry
returns-clause-entry c =
    let s : Store = c.args.self.now in
    let e : Entry = c.in_ok-gone.field-0.now in
    let rises : Rises 0 s.entries = subst (λ (t : Store). Rises 0 t.entries) c.self.view_is c.slots.ensures.rising in
    let first : Some e ≡ find (leaves c.args.leaving.now) s.entries =
    ap (λ r. option_copied r) (sym c.in_ok-gone.was) ∙ c.first_of.ensures ∙ ap (find (leaves c.args.leaving.now)) c.slots.ensures.entries
    ∙ ap (λ (t : Store). find (leaves c.args.leaving.now) t.entries) c.self.view_is in
    c.remove.ensures.entry ∙ (first_by_id (leaves c.args.leaving.now) 0 s.entries e rises (sym first)).1 ∙ first

pub returns-clause-store : goal.returns-clause-store
returns-clause-store c =
    let s : Store = c.args.self.now in
    let e : Entry = c.in_ok-gone.field-0.now in
    let rises : Rises 0 s.entries = subst (λ (t : Store). Rises 0 t.entries) c.self.view_is c.slots.ensures.rising in
    let first : Some e ≡ find (leaves c.args.leaving.now) s.entries =
    ap (λ r. option_copied r) (sym c.in_ok-gone.was) ∙ c.first_of.ensures ∙ ap (find (leaves c.args.leaving.now)) c.slots.ensures.entries
    ∙ ap (λ (t : Store). find (leaves c.args.leaving.now) t.entries) c.self.view_is in
    c.remove.ensures.store ∙ ap (with_entries s) (first_by_id (leaves c.args.leaving.now) 0 s.entries e rises (sym first)).2
