use Rattle.sp_keystate.proofs.Finding.{finds, leaves_more, leaves_on}
use Rattle.sp_keystate.proofs.reading.find.Goals as goal

pub returns-in_err-first-clause-moments : goal.returns-in_err-first-clause-moments
returns-in_err-first-clause-moments g c = leaves_on _ _ _ _ _ _ _ c.in_ok-sync.ensures.synced c.in_ok-sync.ensures.moments c.in_err-first.ensures.moments

pub returns-in_err-second-clause-moments : goal.returns-in_err-second-clause-moments
returns-in_err-second-clause-moments g c =
    leaves_on _ _ _ _ _ _ _ c.in_ok-sync.ensures.synced c.in_ok-sync.ensures.moments
    (leaves_more _ _ _ _ _ c.in_ok-first.ensures.as_before c.in_ok-first.ensures.moments c.in_err-second.ensures.moments)

pub returns-clause-moments : goal.returns-clause-moments
returns-clause-moments g c =
    leaves_on _ _ _ _ _ _ _ c.in_ok-sync.ensures.synced c.in_ok-sync.ensures.moments
    (leaves_more _ _ _ _ _ c.in_ok-first.ensures.as_before c.in_ok-first.ensures.moments c.in_ok-second.ensures.moments)

pub returns-clause-found : goal.returns-clause-found
returns-clause-found g c =
    finds _ _ _ _ _ _ c.in_ok-first.first c.in_ok-second.second _ c.in_ok-sync.ensures.synced c.in_ok-first.ensures.as_before c.in_ok-second.ensures.as_before
    c.in_ok-first.ensures.numbers c.in_ok-second.ensures.numbers c.latest.ensures
