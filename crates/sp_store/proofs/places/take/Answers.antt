use Rattle.std.proofs.Common.{◌∙◌, ap, sym, ℕ, Option, nat_eq}
use Rattle.std.specs.Map.{set_value}
use Rattle.std.specs.Option.{option_and_then, option_copied_mut}
use Rattle.sp_rules.specs.declared.store.Entry.{Entry}
use Rattle.sp_store.specs.Places.{live_of}
use Rattle.indexmap.specs.IndexMap.{IndexMap}
use Rattle.sp_store.proofs.PlaceLemmas.{emptied_is, found_is, none_emptied}
use Rattle.sp_store.proofs.places.take.Goals as goal

pub returns-in-Some-clause-entry : goal.returns-in-Some-clause-entry
returns-in-Some-clause-entry c =
    c.take.ensures.value
    ∙ ap (option_and_then (λ (v : Option Entry). v)) (ap (λ r. option_copied_mut r) (sym c.in-Some.is) ∙ c.get_mut.ensures.value)
    ∙ found_is c.args.id 0 c.args.map.now.entries c.requires

pub returns-in-Some-clause-others : goal.returns-in-Some-clause-others
returns-in-Some-clause-others c =
    ap live_of ((c.get_mut.follows.holds c.take.new.self).0 ∙ ap (set_value (nat_eq c.args.id) c.args.map.now.entries) c.take.ensures.after)
    ∙ emptied_is c.args.id 0 c.args.map.now.entries c.requires

pub returns-in-None-clause-entry : goal.returns-in-None-clause-entry
returns-in-None-clause-entry c =
    ap (option_and_then (λ (v : Option Entry). v)) (ap (λ r. option_copied_mut r) (sym c.in-None.is) ∙ c.get_mut.ensures.value)
    ∙ found_is c.args.id 0 c.args.map.now.entries c.requires

pub returns-in-None-clause-others : goal.returns-in-None-clause-others
returns-in-None-clause-others c =
    let none = ap (λ r. option_copied_mut r) (sym c.in-None.is) ∙ c.get_mut.ensures.value in
    ap (λ (m : IndexMap ℕ (Option Entry) _). live_of m.entries) c.get_mut.follows.holds-at-none
    ∙ ap live_of (sym (none_emptied c.args.id c.args.map.now.entries (sym none)))
    ∙ emptied_is c.args.id 0 c.args.map.now.entries c.requires

pub returns-in-None-clause-places : goal.returns-in-None-clause-places
returns-in-None-clause-places c =
    let none = ap (λ r. option_copied_mut r) (sym c.in-None.is) ∙ c.get_mut.ensures.value in
    ap (λ (m : IndexMap ℕ (Option Entry) _). m.entries) c.get_mut.follows.holds-at-none
    ∙ sym (none_emptied c.args.id c.args.map.now.entries (sym none))
