use Rattle.answer_cases.specs.Listings.{listed_found}
use Rattle.answer_cases.proofs.Listings.{listed_found_lem}
use Rattle.answer_cases.proofs.listed.check.Goals as goal

pub returns : goal.returns
unfolding listed_found
returns c = listed_found_lem _ _ _ _ c.one.ensures c.shows.ensures c.list-n.ensures c.part.ensures c.part-known.ensures c.padded.ensures c.padded-2.ensures c.tag.ensures c.number-size.ensures c.number-extent.ensures
