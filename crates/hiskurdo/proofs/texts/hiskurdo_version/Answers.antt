-- Number and text are computed.
use Rattle.std.proofs.Common.{refl}
use Rattle.lines.specs.Line.{decimal}
use Rattle.hiskurdo.proofs.texts.hiskurdo_version.Goals as goal

pub returns-clause-version_text_value : goal.returns-clause-version_text_value
unfolding decimal
returns-clause-version_text_value c = refl
