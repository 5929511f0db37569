-- The promises of specs/Promises and those of the decoder's steps (proofs/Decoder), each proved, under one roof. Assumes nothing.
use native.Mathlib.Omega.{arith}
use Rattle.code.specs.declared.Stripe.{Stripe}
use Rattle.code.specs.Stripe.{Numbers, modulus_of, root_in}
use Rattle.field.proofs.Primes.{fermat_prime, fermat_root}
use Rattle.decoder.specs.Promises.{Parameters, FindsBlocks, FoundBlocks, FindsStripe, FoundStripe, Promises}
use Rattle.decoder.proofs.Points.{points_distinct}
use Rattle.decoder.proofs.Values.{values_x, values_y}
use Rattle.decoder.proofs.Inverse.{untransforms, transforms, unscales}
use Rattle.decoder.proofs.Half.{half_fixes}
use Rattle.decoder.proofs.Columns.{finds_column, found_column_lem}
use Rattle.decoder.proofs.BlockDecoding.{finds_blocks_lem, found_blocks_lem}
use Rattle.decoder.proofs.TablePromises.{table_rule, root_in_table, powers_in_table, inverses_in_table, mixing_in_table, unmixing_in_table, turning_in_table}
use Rattle.decoder.proofs.TablePromises.{points_in_table}
use Rattle.decoder.proofs.Decoder.{Solves, Low, solves, low}

-- a stripe's numbers are what the promises for any prime ask
numbered : {st : Stripe} → Numbers st → Parameters (modulus_of st) (root_in st) st.k st.level st.first
numbered n = record { prime = fermat_prime; root = fermat_root _ (omega (arith, n.small)); within = n.within; aligned = n.aligned }

finds_stripe : FindsStripe
finds_stripe st ms rows bs n = finds_blocks_lem (modulus_of st) (root_in st) st.k st.level st.first st.width ms rows bs (numbered n)

found_stripe : FoundStripe
found_stripe st ms rows n = found_blocks_lem (modulus_of st) (root_in st) st.k st.level st.first st.width ms rows (numbered n)

pub proved : Promises
proved = record {
  values_x = values_x;
  values_y = values_y;
  distinct_points = points_distinct;
  untransforms_back = untransforms;
  transforms_back = transforms;
  unscales_back = unscales;
  half_fixes = half_fixes;
  finds_column = finds_column;
  found_column = found_column_lem;
  finds_blocks = finds_blocks_lem;
  found_blocks = found_blocks_lem;
  finds_stripe = finds_stripe;
  found_stripe = found_stripe;
  table_rule = table_rule;
  root_in_table = root_in_table;
  powers_in_table = powers_in_table;
  inverses_in_table = inverses_in_table;
  mixing_in_table = mixing_in_table;
  unmixing_in_table = unmixing_in_table;
  turning_in_table = turning_in_table;
  points_in_table = points_in_table;
}

-- those that other crates use
pub finds_blocks : FindsBlocks
finds_blocks = finds_blocks_lem

pub found_blocks : FoundBlocks
found_blocks = found_blocks_lem

-- the decoder's steps
pub solves_column : Solves
solves_column = solves

pub low_column : Low
low_column = low
