use Rattle.sp_frame.proofs.sections.all_document.Goals as goal

-- nothing stands beside the document
pub returns-clause-of_format : goal.returns-clause-of_format
returns-clause-of_format c = c.in_ok-sections.ensures.of_format
