use Rattle.std.proofs.Common.{ℕ, List, Bor, Vec, Global, map, refl}
use Rattle.sp_schedule.proofs.WaitingLemmas.{is_long, no_words_lead, words_lead}
use Rattle.sp_schedule.proofs.feed.lead_of.Goals as goal

pub returns-in_default : goal.returns-in_default
returns-in_default c = (refl, is_long c.args.number c.args.waiting.now c.args.stage c.requires.front c.requires.ready c.in_default.ensures.none)

pub returns-in-Ok : goal.returns-in-Ok
returns-in-Ok c =
    words_lead c.args.number c.args.waiting.now c.in-Some.bytes.now c.args.stage _ c.follow.result c.requires.front c.in-Some.ensures.found c.in-Ok.ensures
    (rw c.as_slice.ensures.value at c.follow.ensures)

pub returns-in-Err : goal.returns-in-Err
returns-in-Err c =
    no_words_lead (λ (ws : Vec (Bor (List ℕ)) Global). map (λ (w : Bor (List ℕ)). w.now) ws.items) c.args.number c.args.waiting.now c.in-Some.bytes.now
    c.args.stage c.in-Err.refused c.refused_lead.result c.requires.front c.in-Some.ensures.found c.in-Err.ensures
    c.refused_lead.ensures
