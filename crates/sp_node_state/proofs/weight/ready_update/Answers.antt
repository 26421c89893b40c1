use Rattle.std.proofs.Common.{◌≡◌, ◌∙◌, sym, subst}
use Rattle.sp_msg.specs.declared.body.Body.{Body}
use Rattle.sp_rules.specs.Handle.{offer_of}
use Rattle.sp_rules.specs.declared.weights.Offer.TheVariants as offers
use Rattle.sp_node_state.proofs.Sent.{own_is_new}
use Rattle.sp_node_state.proofs.weight.ready_update.Goals as goal

pub returns-in-Ok-clause-ready : goal.returns-in-Ok-clause-ready
returns-in-Ok-clause-ready c = record {
  blank = c.in_ok-blank.ensures.ready;
  new = subst (λ (b : Body). offer_of c.args.state.now.parts.weights b ≡ offers.New) (sym (c.in_ok-blank.ensures.body ∙ c.update.ensures))
      (own_is_new c.args.state.now c.args.peer c.args.weight c.requires.free c.requires.kept);
  room = c.in-Ok.ensures.empty;
}
