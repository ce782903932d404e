use Rattle.at_cbor.proofs.Taken.{takes_fronts, takes_numbers, takes_strings, takes_texts, takes_links, takes_children, takes_items, takes_wholes}
use Rattle.at_cbor.proofs.laws.takes_what_is_encoded.Goals as goal

pub returns-clause-fronts : goal.returns-clause-fronts
returns-clause-fronts c = takes_fronts

pub returns-clause-numbers : goal.returns-clause-numbers
returns-clause-numbers c = takes_numbers

pub returns-clause-strings : goal.returns-clause-strings
returns-clause-strings c = takes_strings

pub returns-clause-texts : goal.returns-clause-texts
returns-clause-texts c = takes_texts

pub returns-clause-links : goal.returns-clause-links
returns-clause-links c = takes_links

pub returns-clause-children : goal.returns-clause-children
returns-clause-children c = takes_children

pub returns-clause-items : goal.returns-clause-items
returns-clause-items c = takes_items

pub returns-clause-wholes : goal.returns-clause-wholes
returns-clause-wholes c = takes_wholes
