-- The number and the place by which the refusal of a choice is told.
use Rattle.refusal.specs.declared.Refusal.{Refusal}
use Rattle.refusal.specs.Told.{told}
use Rattle.choices.specs.declared.fault.ChoiceFault.{ChoiceFault}
use Rattle.choices.specs.declared.fault.ChoiceFault.TheVariants.{Length, Entry}

abbrev pub choice_refusal : ChoiceFault → Refusal
choice_refusal Length = told 8 0
choice_refusal (Entry entry) = told 8 entry
