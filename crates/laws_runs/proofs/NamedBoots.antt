-- What names the boots that are held: messages of flows.
use Rattle.std.proofs.Common.{◌≡◌, ◌==◌, ℕ, true, List, refl, sym, ◌∙◌}
use Rattle.std.specs.Prelude.{◌-◌}
use Rattle.std.proofs.lemmas.Bool.{eqb-true}
use Rattle.sp_base.specs.declared.id.Flow.{Flow}
use Rattle.sp_msg.specs.declared.body.Body.{Body}
use Rattle.sp_msg.specs.declared.body.Body.TheVariants as bodies
use Rattle.sp_rules.specs.Flow.{flow_said}
use Rattle.sp_rules.specs.Lives.{are_held, held_boot, is_dated}
use Rattle.sp_rules.specs.Rel.{RelState, judge_ack_of, judge_rel_of}
use Rattle.sp_rules.specs.declared.lives.Life.{Life}
use Rattle.sp_rules.specs.declared.rel.AckJudged.TheVariants as acks
use Rattle.sp_rules.specs.declared.rel.RelJudged.TheVariants as rels
use Rattle.laws_runs.specs.Dated.{NamesBoth, NamesHeld}
use Rattle.laws_runs.proofs.Lists.{both}

names_both : (lives : List Life) (flow : Flow) (sboot dboot : ℕ) → are_held lives flow sboot dboot ≡ true → NamesBoth lives flow flow.src flow.dst sboot dboot
names_both lives flow sboot dboot e =
    let two = both (sboot == held_boot lives flow.src) (dboot == held_boot lives flow.dst) e in
    record { from = refl; to = refl; source = eqb-true sboot (held_boot lives flow.src) two.0; end = eqb-true dboot (held_boot lives flow.dst) two.1 }

-- a message of a flow
abbrev IsOfFlow : Body → Type 0
IsOfFlow (bodies.Rel r) = Unit {0}
IsOfFlow (bodies.Ack a) = Unit {0}
IsOfFlow (bodies.Krel r) = Unit {0}
IsOfFlow (bodies.Kack a) = Unit {0}
IsOfFlow _ = ⊥

-- that names the boots that are held is one of its flow
pub names_held : (lives : List Life) (body : Body) → IsOfFlow body → is_dated lives body ≡ true → NamesHeld lives (flow_said body) body
names_held lives (bodies.Rel r) is e = names_both lives (record { src = r.src; dst = r.dst }) r.sboot r.dboot e
names_held lives (bodies.Ack a) is e = names_both lives (record { src = a.src; dst = a.dst }) a.sboot a.dboot e
names_held lives (bodies.Krel r) is e = names_both lives (record { src = r.src; dst = r.dst }) r.sboot r.dboot e
names_held lives (bodies.Kack a) is e = names_both lives (record { src = a.src; dst = a.dst }) a.sboot a.dboot e
names_held lives (bodies.Prio p) is e = absurd is
names_held lives (bodies.Weight w) is e = absurd is
names_held lives (bodies.Epoch x) is e = absurd is

-- what is new as a message is of a flow
pub rel_of_flow : (r : RelState) (flow : Flow) (body : Body) → judge_rel_of r flow body ≡ rels.New → IsOfFlow body
rel_of_flow r flow (bodies.Rel m) new = tt
rel_of_flow r flow (bodies.Krel m) new = tt
rel_of_flow r flow (bodies.Ack a) new = tt
rel_of_flow r flow (bodies.Kack a) new = tt
rel_of_flow r flow (bodies.Prio p) new = absurd (cc)
rel_of_flow r flow (bodies.Weight w) new = absurd (cc)
rel_of_flow r flow (bodies.Epoch x) new = absurd (cc)

-- and what is new as an acknowledgement
pub ack_of_flow : (r : RelState) (flow : Flow) (body : Body) → judge_ack_of r flow body ≡ acks.New → IsOfFlow body
ack_of_flow r flow (bodies.Rel m) new = tt
ack_of_flow r flow (bodies.Krel m) new = tt
ack_of_flow r flow (bodies.Ack a) new = tt
ack_of_flow r flow (bodies.Kack a) new = tt
ack_of_flow r flow (bodies.Prio p) new = absurd (cc)
ack_of_flow r flow (bodies.Weight w) new = absurd (cc)
ack_of_flow r flow (bodies.Epoch x) new = absurd (cc)

-- where other boots rise, it stays so
pub still_held : (old new : List Life) (flow : Flow) → held_boot new flow.src ≡ held_boot old flow.src → held_boot new flow.dst ≡ held_boot old flow.dst
    → (body : Body) → NamesHeld old flow body → NamesHeld new flow body
still_held old new flow s d (bodies.Rel r) h = record { from = h.from; to = h.to; source = h.source ∙ sym s; end = h.end ∙ sym d }
still_held old new flow s d (bodies.Ack a) h = record { from = h.from; to = h.to; source = h.source ∙ sym s; end = h.end ∙ sym d }
still_held old new flow s d (bodies.Krel r) h = record { from = h.from; to = h.to; source = h.source ∙ sym s; end = h.end ∙ sym d }
still_held old new flow s d (bodies.Kack a) h = record { from = h.from; to = h.to; source = h.source ∙ sym s; end = h.end ∙ sym d }
still_held old new flow s d (bodies.Prio p) h = absurd h
still_held old new flow s d (bodies.Weight w) h = absurd h
still_held old new flow s d (bodies.Epoch x) h = absurd h
