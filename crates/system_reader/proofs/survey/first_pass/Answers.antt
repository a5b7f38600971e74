use Rattle.std.proofs.Common.{refl, sym, subst}
use Rattle.meaning.specs.Text as text
use Rattle.system_reader.specs.Lines.{header_word}
use Rattle.system_reader.specs.Surveys.{Surveyed, not_header, whole_surveyed}
use Rattle.system_reader.proofs.survey.first_pass.Goals as goal

pub returns-in_err-header : goal.returns-in_err-header
returns-in_err-header c =
    subst (Surveyed c.args.text.now) (sym c.from_residual.ensures) (not_header c.args.text.now (c.in_err-header.ensures text.header refl header_word refl))

pub survey_from-requires : goal.survey_from-requires
survey_from-requires c = (c.in_ok-header.ensures text.header refl header_word refl).within

pub returns : goal.returns
returns c =
    whole_surveyed c.args.text.now c.in_ok-header.header.numbers _ _ c.if-text-gt2097152.false (c.in_ok-header.ensures text.header refl header_word refl)
    c.survey_from.ensures
