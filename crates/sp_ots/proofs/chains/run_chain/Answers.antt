use Rattle.std.proofs.Common.{drop, set, sym, ◌∙◌, ap, arith}
use Rattle.std.proofs.lemmas.List.{length-drop, take-set-le, take_all}
use Rattle.sha2.specs.Sha256.{sha256}
use Rattle.sp_ots.specs.Chains.{next_element}
use Rattle.sp_ots.proofs.Steps.{begun, chain_none, chain_more, chain_same, numbered, replaced}
use Rattle.sp_ots.proofs.chains.run_chain.Goals as goal

pub steps-init : goal.steps-init
steps-init c =
    let laid = begun c.args.id.now c.args.q c.args.i c.args.from c.args.element.now c.element_message-message.result c.told-id
    c.element_message-message.ensures in
    record {
      long = omega arith;
      front = laid.0;
      element = laid.1 ∙ sym (chain_none c.args.id.now c.args.q c.args.i c.args.from c.args.element.now);
      within = omega arith;
    }

pub steps-preserved : goal.steps-preserved
unfolding next_element
steps-preserved c =
    let message = c.steps.message in
    let j = c.steps.j in
    let parts = replaced (set message 22 j) c.copy_from_slice.new.self c.digest-next.array_long (omega arith) in
    let hashed = numbered message _ _ j c.steps.invariant.long c.steps.invariant.front c.steps.invariant.element in
    record {
      long = parts.long;
      front = parts.front ∙ take-set-le 22 message 22 j (omega arith) ∙ c.steps.invariant.front;
      element =
          parts.element ∙ c.copy_from_slice.ensures.after ∙ c.digest-next.ensures ∙ ap sha256 hashed
          ∙ sym (chain_more c.args.id.now c.args.q c.args.i c.args.from j c.args.element.now (omega arith));
      within = omega arith;
    }

pub returns : goal.returns
returns c =
    let whole = take_all 32 (drop 23 c.steps.message) (omega (arith, c.steps.invariant.long, length-drop 23 c.steps.message)) in
    c.copy_from_slice-2.ensures.after ∙ whole ∙ c.steps.invariant.element
    ∙ chain_same c.args.id.now c.args.q c.args.i c.args.from c.steps.j c.args.to c.args.element.now (omega arith)
