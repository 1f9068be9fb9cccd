use Rattle.writing_laws.proofs.MessageWritten.{fits_lies}
use Rattle.writing_laws.proofs.ReadAgain.{body_read}
use Rattle.writing_laws.proofs.laws.what_fits_lies_in_its_body.Goals as goal

pub returns-clause-lies : goal.returns-clause-lies
returns-clause-lies c = fits_lies

pub returns-clause-read : goal.returns-clause-read
returns-clause-read c = body_read
