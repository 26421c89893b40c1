use Rattle.sp_frame.proofs.sections.+many_numbered.Given as goal

abbrev pub decreases-many_numbered : goal.decreases-many_numbered
decreases-many_numbered l = l.count
