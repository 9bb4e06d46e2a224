use Rattle.assignment.proofs.RisingOwners.{rising_accepted, same_owns, same_owners_of, same_counts, rising_again, each_rises}
use Rattle.assignment.proofs.ownership.rising_owners_law.Goals as goal

pub returns-clause-accepted : goal.returns-clause-accepted
returns-clause-accepted c = rising_accepted

pub returns-clause-owns : goal.returns-clause-owns
returns-clause-owns c = same_owns

pub returns-clause-owners : goal.returns-clause-owners
returns-clause-owners c = same_owners_of

pub returns-clause-counts : goal.returns-clause-counts
returns-clause-counts c = same_counts

pub returns-clause-again : goal.returns-clause-again
returns-clause-again c = rising_again

pub returns-clause-rising : goal.returns-clause-rising
returns-clause-rising c = each_rises
