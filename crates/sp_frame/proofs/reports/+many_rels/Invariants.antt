use Rattle.sp_frame.proofs.reports.+many_rels.Given as goal

abbrev pub decreases-many_rels : goal.decreases-many_rels
decreases-many_rels l = l.count
