-- The number and the place by which a refusal of the line is told.
use Rattle.refusal.specs.declared.Refusal.{Refusal}
use Rattle.refusal.specs.Told.{told}
use Rattle.line.specs.declared.fault.LineFault.{LineFault}
use Rattle.line.specs.declared.fault.LineFault.TheVariants.{Full}

abbrev pub line_refusal : LineFault → Refusal
line_refusal (Full capacity) = told 21 capacity
