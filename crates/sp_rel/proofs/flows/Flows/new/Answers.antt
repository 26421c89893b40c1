use Rattle.std.proofs.Common.{◌∙◌, ap}
use Rattle.sp_rel.specs.Tables.{states}
use Rattle.sp_rel.proofs.FlowLemmas.{states_idle}
use Rattle.sp_rel.proofs.SoundLemmas.{sound_at_start}
use Rattle.sp_rel.proofs.flows.Flows.new.Goals as goal

pub returns : goal.returns
returns c =
    ap (λ flows. record { me = c.args.me; bound = c.args.bound; flows = flows })
    (ap states c.in_ok-idle_rows.ensures ∙ states_idle c.args.me c.args.bound c.args.flows.now)

pub invariant_of-result : goal.invariant_of-result
invariant_of-result c =
    sound_at_start c.args.me c.args.bound c.args.flows.now c.in_ok-idle_rows.field-0.items c.in_ok-no_flags.field-0.items c.in_ok-no_flags-2.field-0.items
    c.in_ok-idle_rows.ensures c.in_ok-no_flags.ensures c.in_ok-no_flags-2.ensures
