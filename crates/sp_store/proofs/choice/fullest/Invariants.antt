use Rattle.std.proofs.Common.{◌≡◌, ◌<◌, Some}
use Rattle.std.specs.List.{range_with_len}
use Rattle.sp_rules.specs.Choices.{first_by}
use Rattle.sp_store.specs.Places.{live}
use Rattle.sp_store.proofs.CountLemmas.{fuller}
use Rattle.sp_store.proofs.choice.fullest.Given as goal

abbrev pub invariant-ids : goal.invariant-ids
invariant-ids l = record {
  within : l.most < l.id;
  first : Some l.most ≡ first_by (fuller (live l.slots)) (range_with_len 0 l.id);
}
