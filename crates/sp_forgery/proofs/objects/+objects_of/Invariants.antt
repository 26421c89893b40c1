use Rattle.std.proofs.Common.{◌-◌, length}
use Rattle.sp_forgery.proofs.objects.+objects_of.Given as goal

abbrev pub decreases-objects_of : goal.decreases-objects_of
decreases-objects_of l = length l.prios.now - l.place
