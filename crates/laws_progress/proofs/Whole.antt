-- All facts of single steps and single states of a calm interval together.
use Rattle.laws_progress.proofs.Always.{always}
use Rattle.laws_progress.proofs.Calms.{Calmly}
use Rattle.laws_progress.proofs.Changes.{flow_later}
use Rattle.laws_progress.proofs.Counting.{few_wait, waiting, within}
use Rattle.laws_progress.proofs.MakesNow.{makes, serves_now}
use Rattle.laws_progress.proofs.Polls.{between_back, none_polled, one_polled}
use Rattle.laws_progress.proofs.Standing.{is_active, place_at, sound, stays_active}
use Rattle.laws_progress.proofs.States.{Era, IsBetween, IsEra, Watched, sight}
use Rattle.laws_progress.proofs.Wires.{told_stays, wires}
use Rattle.laws_runs.specs.Premises.{ComesThrough}
use Rattle.laws_runs.proofs.Signed.{signs}
use Rattle.sp_base.specs.declared.id.Flow.{Flow}
use Rattle.sp_rules.specs.Arts.{Arts}
use Rattle.sp_runs.specs.Rounds.{flow_count}
use Rattle.sp_runs.specs.Settings.{Setting, SettingFits}
use Rattle.sp_schedule_events.specs.declared.event.Event.{Event}
use Rattle.std.proofs.Common.{List, arith, ℕ, ◌≤◌}
use Rattle.laws_progress.proofs.Hops.{Steady}
use Rattle.laws_progress.proofs.Versions.{served_there}
use Rattle.laws_progress.proofs.Calms as calms
use Rattle.laws_progress.proofs.Heeding as heeding
use Rattle.laws_progress.proofs.Passing as passing

pub steady : (arts : Arts) (x : Setting) (all : List Event) (era : Era) (flow : Flow) (fits : SettingFits arts x)
    (reads : ComesThrough x.topology.format arts x.signature_len)
    → (is_era : IsEra x flow era) → 1 ≤ x.buffer → (least : ℕ) → flow_count era.kind x all ≤ least
    → Steady (Watched arts x all era) (Calmly arts x all era flow) (IsBetween x era) (sight arts x all era flow) (wires arts x all era flow) (place_at x flow)
    x.buffer least flow.src flow.dst
steady arts x all era flow fits reads is_era one least enough = record {
  both_ways = λ u v hop. between_back x era u v hop;
  holds = λ w u v hop. always arts x all era flow fits reads is_era w u v hop;
  base_rises = λ w y e u c. (flow_later arts x all era fits reads.carries w y e flow is_era c.leads u).base;
  have_rises = λ w y e u c. (flow_later arts x all era fits reads.carries w y e flow is_era c.leads u).have;
  taken_rises = λ w y e c. (flow_later arts x all era fits reads.carries w y e flow is_era c.leads flow.dst).taken;
  known = λ w y e u v hop c k. calms.known arts x all era flow fits reads is_era w y e c u v hop k;
  stays_active = λ w y e u c on. stays_active arts x all era flow fits reads.carries is_era w y e u c.leads on;
  one_polled = λ w y e u v hop c is. one_polled arts x all w.at y.at e u v c.leads is;
  none_polled = λ w y e u v hop c is. none_polled arts x all w.at y.at e u v c.leads is;
  serves = λ w y e u v p hop c is knows turn. calms.serves arts x all era flow fits reads is_era w y e c u v p hop is knows turn;
  serves_none = λ w y e u v hop c off. calms.serves_none arts x all era flow fits reads is_era w y e c u v hop off;
  makes_room = λ w y e c is. calms.makes_room arts x all era flow fits reads is_era w y e c one is;
  frames_stay = λ w y e u v k hop c low. told_stays arts x all era flow w y e u v k c.leads low;
  makes = λ w y e u v hop c poll. makes arts x all era flow fits reads w y e u v hop c.leads poll;
  made_now = λ w y e u v hop c poll.
      let p = c.before u hop.first in
      serves_now arts x all era flow fits reads w y e u v hop c.leads poll p.node p.there p.counts p.runs.0
      (λ heard. served_there x era.version era.weights u v hop.hop.joined hop.open_edge p.node
      ((signs arts x w.at.events w.at.journal w.at.world fits reads.carries w.at.run).nodes u p.node p.there).fixed p.runs heard)
      (c.passes u v p.node hop p.there p.counts);
  hears = λ w y e u v hop c. heeding.hears arts x all era flow fits reads is_era w y e c u v hop;
  learns = λ w y e u v k hop c pass here. passing.learns arts x all era flow fits reads is_era w y e c u v hop k pass here;
  comes = λ w y e u v k hop c pass pos on. passing.comes arts x all era flow fits reads is_era w y e c u v hop k pass on;
  acknowledged = λ w y e u c. calms.acknowledged arts x all era flow fits reads is_era w c.before u;
  sent = λ w y e u c. calms.sent_most arts x all era flow fits reads is_era w c.before u;
  sound = λ w u. sound arts x all era flow fits reads.carries w u;
  is_active = λ w u some. is_active arts x all era flow fits reads.carries w u some;
  among = waiting era.kind x all;
  within = λ w u. within arts x all era flow fits reads.carries w u;
  few = let most = few_wait era.kind x all in omega (arith, most, enough);
}
