-- All laws of runs, of what a schedule's header makes.
use Rattle.std.proofs.Common.{List}
use Rattle.sp_runs.specs.Scenarios.{setting_of}
use Rattle.sp_runs.specs.Settings.{Setting, SettingFits, StaysUp}
use Rattle.sp_runs.specs.Runs.{Clean}
use Rattle.sp_runs.specs.Worlds.{World}
use Rattle.sp_journal.specs.declared.entry.Entry.{Entry}
use Rattle.sp_schedule_events.specs.declared.event.Event.{Event}
use Rattle.laws_progress.proofs.Rising.{versions_never_fall}
use Rattle.laws_runs.specs.Premises.{Carries}
use Rattle.laws_runs.proofs.Beginnings.{beginnings_are_clean}
use Rattle.laws_runs.proofs.Bounds.{buffers_stay_bounded}
use Rattle.laws_runs.proofs.Determined.{runs_are_determined}
use Rattle.laws_runs.proofs.FlowPlain.{flows_are_kept}
use Rattle.laws_runs.proofs.FlowRuns.{flows_are_kept_over_lives}
use Rattle.laws_runs.proofs.HeldBoots.{held_boots_are_born}
use Rattle.laws_runs.proofs.KeyFiles.{key_files_stand}
use Rattle.laws_runs.proofs.Kept.{what_is_kept_was_signed}
use Rattle.laws_runs.proofs.LifeKeys.{keys_rise}
use Rattle.laws_runs.proofs.PlaceRuns.{evictions_leave_shares, evictions_leave_shares_over_lives}
use Rattle.laws_runs.proofs.PrioRuns.{life_priority_is_kept, priority_is_kept}
use Rattle.laws_runs.proofs.Signed.{signs}
use Rattle.laws_runs.proofs.There.{correct_nodes_are_there, only_correct_nodes_run}
use Rattle.laws_runs.proofs.Versions.{later_versions_follow, versions_are_published}
use Rattle.laws_runs.proofs.WeightRuns.{weights_are_kept, weights_are_kept_over_lives}
use Rattle.laws_runs_format.specs.Arts.{arts_of}
use Rattle.laws_runs_format.specs.Headline.{Claims, EveryLife, EveryRun, LivesClaims}
use Rattle.laws_runs_format.proofs.Headers.{headers_fit, plain_headers_fit}
use Rattle.laws_runs_format.proofs.Opens.{schedules_deliver, schedules_deliver_in_lives, schedules_return, schedules_return_in_lives, schedules_tell_starts}
use Rattle.laws_runs_format.proofs.ReadBack.{format_carries}
use Rattle.laws_runs_format.proofs.Spreading.{schedules_spread_versions}

all_claims : (x : Setting) (es : List Event) (js : List Entry) (w : World) → StaysUp (arts_of x) x → Carries x.topology.format (arts_of x)
    → Clean (arts_of x) x es js w → Claims x es js w
all_claims x es js w fits carries run = record {
  nodes = correct_nodes_are_there (arts_of x) x es js w fits carries run;
  reliable = λ kind s d there correct apart. flows_are_kept kind (arts_of x) x es js w fits carries run s d there correct apart;
  priority = λ s d correct. priority_is_kept (arts_of x) x es js w fits carries run s d correct;
  bounded = λ u n at. buffers_stay_bounded (arts_of x) x es js w fits.fits carries run u n at;
  shares = λ u place. evictions_leave_shares (arts_of x) x es js w fits carries run u place;
  weights = weights_are_kept (arts_of x) x es js w fits carries run;
  signed = what_is_kept_was_signed (arts_of x) x es js w fits.fits carries run;
}

pub every_run : EveryRun
every_run s es js w graph plain some run =
    let x = setting_of s in
    let fits : StaysUp (arts_of x) x = plain_headers_fit s graph plain in
    let carries = format_carries x.topology.format in
    record {
      reached = λ n. beginnings_are_clean (arts_of x) x es js w run n;
      one = λ n v u first second. runs_are_determined (arts_of x) x _ _ v u fits.fits carries first second;
      delivered = schedules_deliver s graph plain some;
      returned = schedules_return s graph plain some;
      claims = λ n v beginning. all_claims x _ _ v fits carries beginning;
    }

-- ---- with epochs too

lives_claims : (x : Setting) (es : List Event) (js : List Entry) (w : World) → SettingFits (arts_of x) x → Carries x.topology.format (arts_of x)
    → (run : Clean (arts_of x) x es js w) → LivesClaims x es js w run
lives_claims x es js w fits carries run = record {
  nodes = only_correct_nodes_run (arts_of x) x es js w fits carries run;
  keys = key_files_stand (arts_of x) x es js w fits run;
  boots = held_boots_are_born (arts_of x) x es js w fits carries run;
  rise = λ u correct. keys_rise (arts_of x) x es js w fits carries run u correct;
  reliable = λ kind s d there correct apart. flows_are_kept_over_lives kind (arts_of x) x es js w fits carries run s d there correct apart;
  priority = λ s d correct. life_priority_is_kept (arts_of x) x es js w fits carries run s d correct;
  bounded = λ u n at. buffers_stay_bounded (arts_of x) x es js w fits carries run u n at;
  shares = λ u place. evictions_leave_shares_over_lives (arts_of x) x es js w fits carries run u place;
  weights = weights_are_kept_over_lives (arts_of x) x es js w fits carries run;
  signed = what_is_kept_was_signed (arts_of x) x es js w fits carries run;
  versions = record {
    published = versions_are_published (arts_of x) x es js w fits carries run;
    follow = later_versions_follow (arts_of x) x es js w fits carries run;
    obey = λ u n at. ((signs (arts_of x) x es js w fits carries run).nodes u n at).obeys;
  };
}

pub every_life : EveryLife
every_life s es js w graph some run =
    let x = setting_of s in
    record {
      reached = λ n. beginnings_are_clean (arts_of x) x es js w run n;
      one = λ n v u first second. runs_are_determined (arts_of x) x _ _ v u (headers_fit s graph) (format_carries x.topology.format) first second;
      told = λ epochs. schedules_tell_starts s graph epochs;
      delivered = schedules_deliver_in_lives s graph some;
      returned = schedules_return_in_lives s graph some;
      spread = λ may. schedules_spread_versions s graph may;
      rise = versions_never_fall (arts_of x) x (headers_fit s graph) (format_carries x.topology.format);
      claims = λ n v beginning. lives_claims x _ _ v (headers_fit s graph) (format_carries x.topology.format) beginning;
    }
