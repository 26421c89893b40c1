use Rattle.std.proofs.Common.{sym, ◌∙◌}
use Rattle.sp_measure.specs.Hashed.{hashed}
use Rattle.sp_measure.proofs.MeterLemmas.{proof_grows}
use Rattle.sp_measure.proofs.meter.Meter.begin.Goals as goal

pub invariant_of-self : goal.invariant_of-self
invariant_of-self c =
    let m = c.self.inside in
    record {
      expects = c.with_nonce-self-inside.ensures
          ∙ rw (c.self.invariant.expects, c.nonce-nonce.ensures) (sym (proof_grows hashed (record { key = m.key; me = m.me; boot = m.boot }) m.number));
      all_places = c.self.invariant.all_places;
      within = c.self.invariant.within;
      small = c.self.invariant.small;
    }
