-- Laws of the layout: each part's fields as the code takes them off a number n, and each part's bytes as the code stores them.
-- Assumes nothing.
use Rattle.std.specs.Prelude.{◌≡◌, refl, List, [], ◌∷◌, ◌++◌, ℕ, ◌+◌, ◌*◌, ◌-◌, ◌/◌, ◌%◌, ◌≤◌, length, take, drop, set, replicate}
use Rattle.std.proofs.Common.{ap, ◌∙◌, div-one, add-one, arith, length-append, length-drop}
use Rattle.std.proofs.Math.Numerals.{add-two, add-three, add-four}
use Rattle.std.proofs.lemmas.List.Edits.{sets}
use Rattle.laws.specs.Written.Properties.{written_none, written_again, written_stop}
use Rattle.plan.specs.Record.{no_project, no_kind}
use Rattle.plan.specs.declared.Project.{Project}
use Rattle.plan.specs.declared.Kind.{Kind}
use Rattle.plan.specs.declared.Plan.{Plan}
use Rattle.plan.specs.Order.{project_of, kind_of, Sized}
use Rattle.codec.specs.Pack.{pack, unpack}
use Rattle.codec.specs.Bytes.{number_to, bytes_of}
use Rattle.codec.specs.Bytes.Properties.{bytes_length}
use Rattle.codec.specs.Places.{parts_to, put_to}
use Rattle.codec.specs.Places.Properties.{handed_on, parts_length, front_sets, front_put}
use Rattle.plan_bytes.specs.Parts.{header_bytes, project_bytes, kind_bytes, project_bytes_at, kind_bytes_at, encoded, header_fields}
use Rattle.plan_bytes.specs.Parts.{project_fields, kind_fields, project_from, kind_from, project_at, kind_at, projects_from, kinds_from}
use Rattle.plan_bytes.specs.Parts.{headed, decoded, size}

-- ---- "at most 99"

pub size_most : (p : Plan) → Sized p → size p ≤ 99
unfolding size
size_most p counts = omega (arith, counts.projects_most, counts.kinds_most)

-- ---- fields off a number

pub project_fields_law : (s : List ℕ) (n : ℕ) → n ≡ number_to 2 s → (n / 4096 % 16) ∷ (n / 4 % 1024) ∷ (n % 4) ∷ [] ≡ project_fields s
unfolding project_fields unpack
project_fields_law s n e = rw (← e, div-one n)

pub kind_fields_law : (s : List ℕ) (n : ℕ) → n ≡ number_to 5 s
    → (n / 137438953472 % 8) ∷ (n / 33554432 % 4096) ∷ (n / 8192 % 4096) ∷ (n / 2 % 4096) ∷ (n % 2) ∷ [] ≡ kind_fields s
unfolding kind_fields unpack
kind_fields_law s n e = rw (← e, div-one n)

pub header_fields_law : (s : List ℕ) (n : ℕ) → n ≡ number_to 3 s
    → (n / 1048576 % 16) ∷ (n / 65536 % 16) ∷ (n / 2048 % 32) ∷ (n / 16 % 128) ∷ (n % 16) ∷ [] ≡ header_fields s
unfolding header_fields unpack
header_fields_law s n e = rw (← e, div-one n)

-- ---- the steps of the loops that read the projects and the unit kinds

pub projects_none : (s : List ℕ) → replicate 8 no_project ≡ projects_from 0 s
unfolding projects_from
projects_none s = written_none (λ j. project_from (project_at s j)) (replicate 8 no_project)

pub projects_again : (i : ℕ) (s : List ℕ) (l : List Project) (v : Project) → l ≡ projects_from i s
    → v ≡ project_from (take (length s - 2 * i) (drop (2 * i) s))
    → set l i v ≡ projects_from (i + 1) s
unfolding projects_from
projects_again i s l v p q =
    written_again i (λ j. project_from (project_at s j)) (replicate 8 no_project) l v p (q ∙ ap project_from (handed_on s (2 * i)))

pub projects_stop : (i n : ℕ) (s : List ℕ) (l : List Project) → l ≡ projects_from i s → i ≤ n → n ≤ i → l ≡ projects_from n s
unfolding projects_from
projects_stop i n s l p a b = written_stop i n (λ j. project_from (project_at s j)) (replicate 8 no_project) l p a b

pub kinds_none : (s : List ℕ) → replicate 16 no_kind ≡ kinds_from 0 s
unfolding kinds_from
kinds_none s = written_none (λ i. kind_from (kind_at s i)) (replicate 16 no_kind)

pub kinds_again : (i : ℕ) (s : List ℕ) (l : List Kind) (v : Kind) → l ≡ kinds_from i s
    → v ≡ kind_from (take (length s - 5 * i) (drop (5 * i) s))
    → set l i v ≡ kinds_from (i + 1) s
unfolding kinds_from
kinds_again i s l v p q =
    written_again i (λ k. kind_from (kind_at s k)) (replicate 16 no_kind) l v p (q ∙ ap kind_from (handed_on s (5 * i)))

pub kinds_stop : (i n : ℕ) (s : List ℕ) (l : List Kind) → l ≡ kinds_from i s → i ≤ n → n ≤ i → l ≡ kinds_from n s
unfolding kinds_from
kinds_stop i n s l p a b = written_stop i n (λ k. kind_from (kind_at s k)) (replicate 16 no_kind) l p a b

-- ---- stores

pub put_project : (v : Project) (q b at : ℕ) (l : List ℕ) → q ≡ v.ceiling → b ≡ v.budget
    → set (set l at ((q * 4096 + b * 4) / 256 % 256)) (at + 1) ((q * 4096 + b * 4) % 256) ≡ sets l at (project_bytes v)
unfolding project_bytes bytes_of pack
put_project v q b at l e f =
    let n : q * 4096 + b * 4 ≡ v.ceiling * 4096 + (v.budget * 4 + (0 * 1 + 0)) = omega arith in
    rw (add-one at, n)

pub put_kind : (v : Kind) (j t d c at : ℕ) (l : List ℕ) → j ≡ v.project → t ≡ v.separation → d ≡ v.deadline → c ≡ v.length
    → set (set (set
    (set (set l at ((j * 137438953472 + t * 33554432 + d * 8192 + c * 2) / 4294967296 % 256)) (at + 1)
    ((j * 137438953472 + t * 33554432 + d * 8192 + c * 2) / 16777216 % 256)) (at + 2)
    ((j * 137438953472 + t * 33554432 + d * 8192 + c * 2) / 65536 % 256)) (at + 3)
    ((j * 137438953472 + t * 33554432 + d * 8192 + c * 2) / 256 % 256)) (at + 4)
    ((j * 137438953472 + t * 33554432 + d * 8192 + c * 2) % 256)
    ≡ sets l at (kind_bytes v)
unfolding kind_bytes bytes_of pack
put_kind v j t d c at l e f g h = go (j * 137438953472 + t * 33554432 + d * 8192 + c * 2) (omega arith)
  where
    go : (n : ℕ) → n ≡ v.project * 137438953472 + (v.separation * 33554432 + (v.deadline * 8192 + (v.length * 2 + (0 * 1 + 0))))
        → set (set (set (set (set l at (n / 4294967296 % 256)) (at + 1) (n / 16777216 % 256)) (at + 2) (n / 65536 % 256)) (at + 3)
        (n / 256 % 256)) (at + 4) (n % 256) ≡ sets l at (kind_bytes v)
    go n q =
        let a : n / 4294967296 ≡ n / 256 / 256 / 256 / 256 = omega arith in
        let b : n / 16777216 ≡ n / 256 / 256 / 256 = omega arith in
        let z : n / 65536 ≡ n / 256 / 256 = omega arith in
        rw (add-one at, add-two at, add-three at, add-four at, a, b, z, ← q)

pub put_header : (p : Plan) (m k n f : ℕ) (l : List ℕ) → m ≡ p.cards → k ≡ p.projects → n ≡ p.kinds → f ≡ p.frame
    → set (set (set l 0 ((m * 1048576 + k * 65536 + n * 2048 + f * 16) / 65536 % 256)) 1
    ((m * 1048576 + k * 65536 + n * 2048 + f * 16) / 256 % 256)) 2 ((m * 1048576 + k * 65536 + n * 2048 + f * 16) % 256)
    ≡ sets l 0 (header_bytes p)
unfolding header_bytes bytes_of pack
put_header p m k n f l e g h i = go (m * 1048576 + k * 65536 + n * 2048 + f * 16) (omega arith)
  where
    go : (x : ℕ) → x ≡ p.cards * 1048576 + (p.projects * 65536 + (p.kinds * 2048 + (p.frame * 16 + (0 * 1 + 0))))
        → set (set (set l 0 (x / 65536 % 256)) 1 (x / 256 % 256)) 2 (x % 256) ≡ sets l 0 (header_bytes p)
    go x q = let z : x / 65536 ≡ x / 256 / 256 = omega arith in rw (z, ← q)

-- ---- where the parts lie

pub size_header : (p : Plan) (n : ℕ) → size p ≤ n → 3 ≤ n
unfolding size
size_header p n l = omega arith

-- the projects lie in what is handed on after the header
pub size_after_header : (p : Plan) (s : List ℕ) → size p ≤ length s → 2 * p.projects ≤ length (take (length s - 3) (drop 3 s))
unfolding size
size_after_header p s l = rw (handed_on s 3) (omega (arith, length-drop 3 s))

-- and the unit kinds in what is handed on after the projects
pub size_after_projects : (p : Plan) (s : List ℕ) → size p ≤ length s
    → 5 * p.kinds ≤ length (take (length s - (3 + 2 * p.projects)) (drop (3 + 2 * p.projects) s))
unfolding size
size_after_projects p s l = rw (handed_on s (3 + 2 * p.projects)) (omega (arith, length-drop (3 + 2 * p.projects) s))

-- the counts and the places make the plan
pub plan_placed : (s : List ℕ) (p : Plan) (projects : List Project) (kinds : List Kind) → p ≡ headed s
    → projects ≡ projects_from p.projects (take (length s - 3) (drop 3 s))
    → kinds ≡ kinds_from p.kinds (take (length s - (3 + 2 * p.projects)) (drop (3 + 2 * p.projects) s))
    → record { cards = p.cards; projects = p.projects; kinds = p.kinds; frame = p.frame; project = projects; kind = kinds } ≡ decoded s
unfolding decoded
plan_placed s p projects kinds e f g =
    let a : projects ≡ projects_from (headed s).projects (drop 3 s) = f ∙ ap (projects_from p.projects) (handed_on s 3)
    ∙ ap (λ (q : Plan). projects_from q.projects (drop 3 s)) e in
    let b : kinds ≡ kinds_from (headed s).kinds (drop (3 + 2 * (headed s).projects) s) =
    g ∙ ap (kinds_from p.kinds) (handed_on s (3 + 2 * p.projects))
    ∙ ap (λ (q : Plan). kinds_from q.kinds (drop (3 + 2 * q.projects) s)) e in
    λ i. record { cards = (e i).cards; projects = (e i).projects; kinds = (e i).kinds; frame = (e i).frame; project = a i; kind = b i }

-- ---- a plan's parts

pub header_length : (p : Plan) → length (header_bytes p) ≡ 3
unfolding header_bytes
header_length p = bytes_length 3 _

pub project_length : (v : Project) → length (project_bytes v) ≡ 2
unfolding project_bytes
project_length v = bytes_length 2 _

pub kind_length : (v : Kind) → length (kind_bytes v) ≡ 5
unfolding kind_bytes
kind_length v = bytes_length 5 _

-- the header, the projects and the unit kinds, stored in that order, are the plan's bytes before what was there
pub put_plan : (p : Plan) (out a b after : List ℕ) → size p ≤ length out → a ≡ sets out 0 (header_bytes p)
    → b ≡ put_to p.projects (project_bytes_at p) 3 2 a → after ≡ put_to p.kinds (kind_bytes_at p) (3 + 2 * p.projects) 5 b
    → after ≡ encoded p ++ drop (size p) out
unfolding encoded size
put_plan p out a b after l e f g =
    let h = header_length p in
    let n : 0 + length (header_bytes p) ≡ 3 = omega arith in
    let x : a ≡ header_bytes p ++ drop 3 out = e ∙ front_sets [] (header_bytes p) out out 0 refl refl (omega arith)
    ∙ ap (λ (k : ℕ). header_bytes p ++ drop k out) n in
    let y : b ≡ header_bytes p ++ parts_to p.projects (project_bytes_at p) ++ drop (3 + 2 * p.projects) out =
    f ∙ front_put p.projects (project_bytes_at p) 2 (header_bytes p) out a 3 (λ j. project_length (project_of p j)) h x (omega arith) in
    let k : length (header_bytes p ++ parts_to p.projects (project_bytes_at p)) ≡ 3 + 2 * p.projects =
    length-append (header_bytes p) (parts_to p.projects (project_bytes_at p))
    ∙ omega (arith, parts_length p.projects (project_bytes_at p) 2 (λ j. project_length (project_of p j))) in
    g ∙ front_put p.kinds (kind_bytes_at p) 5 (header_bytes p ++ parts_to p.projects (project_bytes_at p)) out b (3 + 2 * p.projects)
    (λ i. kind_length (kind_of p i)) k y (omega arith)
