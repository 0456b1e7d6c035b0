-- The number and the place by which each refusal is told.
use Rattle.refusal.specs.declared.Refusal.{Refusal}
use Rattle.refusal.specs.Told.{told}
use Rattle.orders.specs.declared.fault.CardFault.{CardFault}
use Rattle.orders.specs.declared.fault.CardFault.TheVariants.{Length, OutOfRange, Repeated}
use Rattle.orders.specs.declared.fault.BookFault.{BookFault}
use Rattle.orders.specs.declared.fault.BookFault.TheVariants.{Size, Chooser, Card}

-- an entry is told by its number on the card, from 1
abbrev pub card_refusal : CardFault → Refusal
card_refusal Length = told 1 0
card_refusal (OutOfRange entry) = told 2 entry
card_refusal (Repeated entry) = told 3 entry

abbrev pub book_refusal : BookFault → Refusal
book_refusal Size = told 4 0
book_refusal Chooser = told 5 0
book_refusal (Card card) = card_refusal card.fault
