use Rattle.std.proofs.Common.{◌∙◌, ℕ, List, Option, Some, None, ap, refl, sym, arith}
use Rattle.sp_base.proofs.NumberLemmas.{AreBytes-from_places}
use Rattle.sp_node_format.specs.Format.{format_in}
use Rattle.sp_rules.specs.Arrivals.{before_document, document_at}
use Rattle.sp_rules.specs.Steps.{document_items}
use Rattle.sp_runs.specs.Forgery.{forged_document}
use Rattle.sp_runs.specs.Scenarios.{setting_of}
use Rattle.sp_topology.specs.declared.topology.Topology.{Topology}
use Rattle.sp_forgery.specs.Brought.{unpublished}
use Rattle.sp_forgery.specs.Found.{answered}
use Rattle.sp_forgery.proofs.Adopting.{document_is, document_is_short}
use Rattle.sp_forgery.proofs.Outcomes.{items_are, link_is, object_is}
use Rattle.sp_forgery.proofs.Short.{forged_is_short}
use Rattle.sp_forgery.proofs.judging.judge.Goals as goal

pub returns-in-Some-clause-judged : goal.returns-in-Some-clause-judged
returns-in-Some-clause-judged c = λ n new w me long same called rows gave.
    let known = c.args.known.now in
    let format = known.scenario.now.format in
    let arts = format_in format in
    let u = c.args.u in
    let bytes = c.args.bytes.now in
    let step = c.args.step.now in
    let link = link_is format n new u bytes step called gave in
    let items = items_are format n new u bytes step called gave in
    let more = document_items arts (before_document arts n u bytes) (document_at arts n u bytes) in
    let output = answered format n u bytes step in
    object_is (setting_of known.scenario.now) known.events.now known.journal.now n u c.args.v bytes w c.args.directions.now step.reply.link output
    (Some c.in-Some.body.now) (forged_document arts known.events.now output.adopted) me rows link
    (sym c.has_forged_tag.ensures ∙ c.if-has_forged_tag.false)
    (rw c.in-Some.is at c.forged_in.ensures n u long same link more (c.as_slice-items.ensures ∙ items)) refl

pub returns-in-Some-clause-short : goal.returns-in-Some-clause-short
returns-in-Some-clause-short c = λ n new long same called gave room most longer.
    let known = c.args.known.now in
    let format = known.scenario.now.format in
    let arts = format_in format in
    let u = c.args.u in
    let bytes = c.args.bytes.now in
    let step = c.args.step.now in
    let link = link_is format n new u bytes step called gave in
    let items = items_are format n new u bytes step called gave in
    let more = document_items arts (before_document arts n u bytes) (document_at arts n u bytes) in
    let short = forged_is_short (setting_of known.scenario.now) known.events.now known.journal.now n u bytes c.in-Some.body.now
    (AreBytes-from_places bytes (λ i. (c.type_inv.bytes i).fits))
    (rw c.in-Some.is at c.forged_in.ensures n u long same link more (c.as_slice-items.ensures ∙ items)) in
    omega (arith, short, most)

pub returns-in-Some-forged_document-clause-judged : goal.returns-in-Some-forged_document-clause-judged
returns-in-Some-forged_document-clause-judged c = λ n new w me long same called rows gave.
    let known = c.args.known.now in
    let format = known.scenario.now.format in
    let arts = format_in format in
    let u = c.args.u in
    let bytes = c.args.bytes.now in
    let step = c.args.step.now in
    let link = link_is format n new u bytes step called gave in
    let items = c.as_slice-items.ensures ∙ items_are format n new u bytes step called gave in
    let more = document_items arts (before_document arts n u bytes) (document_at arts n u bytes) in
    object_is (setting_of known.scenario.now) known.events.now known.journal.now n u c.args.v bytes w c.args.directions.now step.reply.link
    (answered format n u bytes step) None (Some c.in-Some-forged_document.document.now) me rows link
    (sym c.has_forged_tag.ensures ∙ c.if-has_forged_tag.false)
    (rw c.in_default.is at c.forged_in.ensures n u long same link more items)
    (rw c.in-Some-forged_document.is at c.forged_document.ensures
    ∙ ap (λ (b : Option (List ℕ × Topology)). unpublished known.events.now step.reply.link c.as_slice-items.result.now b) c.requires.brought
    ∙ document_is known.events.now format n u bytes c.as_slice-items.result.now known.signature_len step.reply.link long link items)

pub returns-in-Some-forged_document-clause-short : goal.returns-in-Some-forged_document-clause-short
returns-in-Some-forged_document-clause-short c = λ n new long same called gave room most longer.
    let known = c.args.known.now in
    let bytes = c.args.bytes.now in
    let step = c.args.step.now in
    let short = document_is_short known.events.now known.scenario.now.format known.signature_len step.reply.link c.as_slice-items.result.now bytes
    c.in-Some-forged_document.document.now (AreBytes-from_places bytes (λ i. (c.type_inv.bytes i).fits))
    (rw c.in-Some-forged_document.is at c.forged_document.ensures
    ∙ ap (λ (b : Option (List ℕ × Topology)). unpublished known.events.now step.reply.link c.as_slice-items.result.now b) c.requires.brought) in
    omega (arith, short, longer)

pub returns-in-None-clause-judged : goal.returns-in-None-clause-judged
returns-in-None-clause-judged c = λ n new w me long same called rows gave.
    let known = c.args.known.now in
    let format = known.scenario.now.format in
    let arts = format_in format in
    let u = c.args.u in
    let bytes = c.args.bytes.now in
    let step = c.args.step.now in
    let link = link_is format n new u bytes step called gave in
    let items = c.as_slice-items.ensures ∙ items_are format n new u bytes step called gave in
    let more = document_items arts (before_document arts n u bytes) (document_at arts n u bytes) in
    object_is (setting_of known.scenario.now) known.events.now known.journal.now n u c.args.v bytes w c.args.directions.now step.reply.link
    (answered format n u bytes step) None None me rows link
    (sym c.has_forged_tag.ensures ∙ c.if-has_forged_tag.false)
    (rw c.in_default.is at c.forged_in.ensures n u long same link more items)
    (rw c.in-None.is at c.forged_document.ensures
    ∙ ap (λ (b : Option (List ℕ × Topology)). unpublished known.events.now step.reply.link c.as_slice-items.result.now b) c.requires.brought
    ∙ document_is known.events.now format n u bytes c.as_slice-items.result.now known.signature_len step.reply.link long link items)
