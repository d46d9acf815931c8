mod ExampleLemmas
