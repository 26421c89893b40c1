-- The texts of what was given to the auditor.
use Rattle.sp_words.specs.AuditParse.{AuditTexts}
use Rattle.sp_words.specs.Views.{text}
use Rattle.sp_words.specs.declared.audit_given.AuditGiven.{AuditGiven}

abbrev pub audit_texts_in : AuditGiven → AuditTexts
audit_texts_in g = record {
  command = text g.command;
  first = text g.first;
  second = text g.second;
  path = text g.path;
  from = text g.from;
}
