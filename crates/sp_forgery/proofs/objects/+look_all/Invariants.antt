use Rattle.std.proofs.Common.{◌-◌, length}
use Rattle.sp_forgery.proofs.objects.+look_all.Given as goal

abbrev pub decreases-look_all : goal.decreases-look_all
decreases-look_all l = length l.objects.now - l.place
