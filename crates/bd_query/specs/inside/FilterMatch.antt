-- The body of `$elemMatch`.
use Rattle.std.specs.Prelude.{Bool, ◌&&◌, map}
use Rattle.std.specs.List.{list_any}
use Rattle.bd_value.specs.{Tree.elements_in, Tree.Tree}
use Rattle.bd_path.specs.Reach.{End, is_document}
use Rattle.bd_query_filter.specs.Filter.{filters_from, operators_from, filter_tree, operator_tree}
use Rattle.bd_query_filter.specs.FilterMatch.{all_accept, all_match, is_value}
use Rattle.bd_query.specs.declared.filter_match.Body.{Body}
use Rattle.bd_query.specs.declared.filter_match.Body.TheVariants.{Operators, Filters}

-- whether an element meets the body of `$elemMatch`:
-- all operators hold of it, or it is a document that matches the filter
abbrev pub matches_element : Body → Tree → Bool
matches_element (Operators os) t = all_accept (operators_from (map operator_tree os.now)) t
matches_element (Filters fs) t = is_document t && all_match (filters_from (map filter_tree fs.now)) t

-- whether an end of a path is an array with an element that meets the body of `$elemMatch`
abbrev pub is_matching : Body → End → Bool
is_matching body = is_value (λ t. list_any (matches_element body) (elements_in t))
